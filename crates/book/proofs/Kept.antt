-- The promises, from the causes that do not hold in an accepted call.
use Rattle.std.proofs.Common.{◌≡◌, ℕ, zero, suc, ◌-◌, ◌<◌, ◌≤◌, true, false, leb, List, length, get_or, Some, None, Option, sym, refl, ap, ◌∙◌, subst, ⊎_elim, arith}
use Rattle.book.specs.Calls.{first_revised, posted, revising, unless}
use Rattle.book.specs.Causes.{used_slot}
use Rattle.book.specs.Lists.{entry, spliced}
use Rattle.book.specs.Promises.{Apart, FromTheFourthBlock, NobodyElsesAccount, OneRevisionASlot, Taken}
use Rattle.book.specs.States.{State, admission, day_at, nobody, owner_of, station_at}
use Rattle.book.specs.Stations.{moved, on_stage}
use Rattle.units.specs.declared.head.Head.TheVariants.{Correct, Revise, Settle}
use Rattle.book.specs.declared.station.Station.{Station}
use Rattle.book.proofs.Causes.{Admits, Revisable, admitted, first_none, revisable, when_none}
use Rattle.book.proofs.Writes.{above, below, inside}
use Rattle.posting.proofs.Accounts.{changed_at}
use Rattle.posting.specs.Days.{account_after, among, no_account}
use Rattle.posting.specs.declared.account.Account.{Account}
use Rattle.std.proofs.lemmas.List.{get_or-set_other}
use Rattle.std.proofs.lemmas.Bool.{both_ways, cases_lt, cases_Bool, cond-false, cond-true, leb-false}
use Rattle.units.specs.Bits.{has, last_below, last_of}
use Rattle.units.specs.declared.fault.Fault.{Fault}

-- an accepted call has no cause, and leaves what it computes
taken_none : (c : Option Fault) (s e : State) → Taken (unless c s e) → c ≡ None
taken_none None s e h = refl
taken_none (Some f) s e h = let z : ◌≡◌ {A = ℕ} 0 1 = cc in absurd (omega arith)

left : (c : Option Fault) (s e : State) → c ≡ None → (unless c s e).after ≡ e
left c s e h = ap (λ (x : Option Fault). (unless x s e).after) h

-- what an accepted revision has passed
passed : (t k n : ℕ) (vs : List ℕ) (s : State) → Taken (revising t k n vs s) → Admits Revise t s × Revisable k n vs (station_at s t)
passed t k n vs s h =
    let c = first_none (admission Revise t s) _ (taken_none _ s _ h) in
    (admitted Revise t s c.0, revisable k n vs (station_at s t) c.1)

pub from_the_fourth_block : FromTheFourthBlock
from_the_fourth_block t k n vs s h =
    let p = passed t k n vs s h in
    let page = p.0.fit.schedules in
    let there = p.0.there in
    let ok = p.1 in
    let i = entry t (first_revised n) in
    let room : i ≤ length s.schedules = omega (arith, page, there, ok.low) in
    let page_is : (j : ℕ) → get_or (revising t k n vs s).after.schedules j 0 ≡ get_or (spliced i vs s.schedules) j 0
    = λ j. ap (λ (z : State). get_or z.schedules j 0) (left _ s _ (taken_none _ s _ h)) in
    record {
      earlier = λ b l. page_is (entry t b) ∙ below i vs s.schedules 0 room (entry t b) (omega arith);
      later = λ b l m. page_is (entry t b) ∙ inside i vs s.schedules 0 room (entry t b) (omega arith) (omega (arith, ok.counted, ok.low)) ∙ ap (λ j. get_or vs j 0) (offset t b (first_revised n) l);
      others = λ u b ne l. page_is (entry u b) ∙ ⊎_elim
          (λ (q : u < t). below i vs s.schedules 0 room (entry u b) (omega arith))
          (λ (q : t ≤ u). above i vs s.schedules 0 room (entry u b) (omega (arith, ok.counted, ok.low, ne)))
          (cases_lt u t);
    }
  where
    offset : (t b f : ℕ) → f ≤ b → entry t b - entry t f ≡ b - f
    offset t b f l = omega arith

-- the largest number of a set is at least each of its numbers
last_top : (bits k m : ℕ) → m < k → has bits m ≡ true → (l : ℕ) × (last_below bits k ≡ Some l) × (m ≤ l)
unfolding last_below
last_top bits zero m h t = absurd (omega arith)
last_top bits (suc k) m h t = ⊎_elim
    (λ (q : has bits k ≡ true). (k, cond-true (has bits k) (Some k) (last_below bits k) q, omega arith))
    (λ (q : has bits k ≡ false).
    let lower : m < k = ⊎_elim (λ (l : m < k). l) (λ (l : k ≤ m). let e : m ≡ k = omega arith in absurd (both_ways (has bits k) q (subst (λ (z : ℕ). has bits z ≡ true) e t))) (cases_lt m k) in
    let r = last_top bits k m lower t in
    (r.0, cond-false (has bits k) (Some k) (last_below bits k) q ∙ r.1, r.2))
    (cases_Bool (has bits k))

pub one_revision_a_slot_lem : OneRevisionASlot
unfolding last_of
one_revision_a_slot_lem t k n vs s h =
    let p = (passed t k n vs s h).1 in
    let bits = (station_at s t).stage.slots.bits in (
      p.slot,
      p.slotted,
      p.next,
      λ m l used.
          let top = last_top bits 128 m l used in
          let late = subst (λ (z : Option ℕ). used_slot p.slot z ≡ None) top.1 p.fresh in
          let over = leb-false _ _ (when_none (leb p.slot top.0) _ late) in
          omega (arith, top.2, over),
    )

-- posting a station leaves the others
apart : (t : ℕ) (x : Station) (s before after : State) → s.accounts ≡ before.accounts → s.stations ≡ before.stations
    → after ≡ posted t x s → Apart t x before after
apart t x s before after accounts stations is = record {
  accounts = λ h l out.
      ap (λ (z : State). get_or z.accounts h no_account) is
      ∙ changed_at x.plant.members.first x.plant.members.count (account_after (day_at s t x.plant.members)) s.accounts h no_account (subst (λ (zs : List Account). h < length zs) (sym accounts) l)
      ∙ cond-false (among x.plant.members.first x.plant.members.count h) _ _ out
      ∙ ap (λ (zs : List Account). get_or zs h no_account) accounts;
  stations = λ u ne.
      ap (λ (z : State). get_or z.stations u nobody) is
      ∙ get_or-set_other s.stations t u _ nobody ne
      ∙ ap (λ (zs : List Station). get_or zs u nobody) stations;
}

pub nobody_elses_account : NobodyElsesAccount
nobody_elses_account s = (
  λ t h. let a = apart t (on_stage (moved Settle) (station_at s t)) s s _ refl refl (left _ s _ (taken_none _ s _ h)) in record { accounts = a.accounts; stations = a.stations },
  λ g b kw h. let a = apart (owner_of s g) (on_stage (moved Correct) (station_at s (owner_of s g))) _ s _ refl refl (left _ s _ (taken_none _ s _ h)) in record { accounts = a.accounts; stations = a.stations },
)
