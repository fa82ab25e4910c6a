-- Each call keeps what the data and the book have in common.
use Rattle.std.proofs.Common.{◌≡◌, ℕ, ◌+◌, ◌-◌, ◌*◌, ◌<◌, ◌≤◌, true, false, not, leb, ltb, List, [], ◌∷◌, length, get_or, set, replicate, sum, ℤ, pos, ◌-ℤ◌, Some, None, Option, unwrap_or, is_some, sym, refl, ap, ◌∙◌, subst, inl, inr, arith, length-set}
use Rattle.book.proofs.Causes.{admitted, blocks_pass, first_none, generator_admitted, present, revisable, value_passes, when_none}
use Rattle.book.proofs.Writes.{length_spliced}
use Rattle.book.specs.Calls.{first_revised, Answer, above_cash, above_due, missing_reading, posted, unless, with_cash, with_readings, with_station}
use Rattle.book.specs.Causes.{bad_amount, bad_blocks, high_value}
use Rattle.book.specs.Lists.{entry}
use Rattle.posting.specs.Sheets.{installed_power_at}
use Rattle.book.specs.Runs.{Run, step}
use Rattle.book.specs.States.{State, admission, day_at, generator_admission, owner_of, presence, station_at}
use Rattle.book.specs.Stations.{filed_on, is_settled, moved, moves, on_balance, on_stage, revised_in, slot_of, with_net}
use Rattle.units.specs.declared.head.Head.{Head}
use Rattle.units.specs.declared.head.Head.TheVariants.{File, Declare, Issue, Revise, Close, Read, Settle, Correct}
use Rattle.law.proofs.Kept.{Kept, Metered, Placed, Scheduled, accounts_stay, charges_put, charges_stay, sheeted}
use Rattle.law.proofs.Moves.{capacity_moves, each_but, each_in, phase_moves, reading_elsewhere, reading_moves, replaced, schedule_moves, settled_moves, still, whole_phase, whole_reading}
use Rattle.law.proofs.Pages.{filled, revised}
use Rattle.law.proofs.Places.{Within, find, in_all, owner_at}
use Rattle.law.proofs.Posted.{accounted, charged, powered}
use Rattle.law.proofs.Stations.{added_more, agreeing, but_own, put, put_phase, put_same}
use Rattle.law.proofs.Changed.{but_other, but_same}
use Rattle.law.proofs.Phases.{LeadsTo, Stays, by_phase}
use Rattle.law.specs.Data.{Data, Layout, accepting, after_answer, but, but_in, data_after, revised_from}
use Rattle.law.specs.Figures.{added}
use Rattle.posting.proofs.Search.{first_is}
use Rattle.posting.specs.Missing.{first_missing_of, missing_at}
use Rattle.posting.specs.declared.place.Place.{Place}
use Rattle.std.proofs.lemmas.Bool.{and_cases, cases_eq, cond_both, false≢true, leb-true, ltb-false, not-false}
use Rattle.std.proofs.lemmas.Int.{ints}
use Rattle.std.proofs.lemmas.List.{length-replicate}
use Rattle.std.proofs.lemmas.Option.{none-some}
use Rattle.units.specs.declared.fault.Fault.{Fault}
use Rattle.units.specs.declared.fault.Fault.TheVariants.{MissingReading}
use Rattle.units.specs.declared.call.Call.TheVariants as call
use Rattle.units.specs.declared.call.Call.{Call}
use Rattle.units.specs.declared.station.Phase.{Phase}
use Rattle.units.specs.declared.station.Phase.TheVariants.{Running, Metering, Settled}
use Rattle.units.specs.declared.limits.TheConstants.{BLOCKS, GENERATOR_KW, STATION_KW}

module _ (y : Layout) (d : Data) (s : State) (h : Kept y d s) where
  abbrev many : ℕ
  many = length y.counts

  -- station t of the list, with what the data say of it
  here : (t : ℕ) → t < length s.stations → t < length y.counts
  here t l = omega (arith, h.stand.many)

  off : (t : ℕ) → t < length y.counts → is_settled (station_at s t).stage.phase ≡ false → is_settled (d.phase t) ≡ false
  off t l e = sym (ap is_settled (h.stand.phase_is t l)) ∙ e

  -- a page of schedules with another row
  scheduled : (t : ℕ) (r : ℕ → ℕ) (page : List ℕ) → length page ≡ length s.schedules
      → ((u b : ℕ) → u < many → b < BLOCKS → get_or page (entry u b) 0 ≡ but t r d.schedule u b)
      → ((b : ℕ) → b < BLOCKS → t < many → r b ≤ STATION_KW) → Scheduled many (but t r d.schedule) page
  scheduled t r page long at low = record {
    room = omega (arith, long, h.schedules.room);
    at = at;
    low = λ u b l m. each_but (λ k f. k < many → f b ≤ STATION_KW) t r d.schedule (low b m) (λ k ne q. h.schedules.low k b q m) u l;
  }

  -- a station that is not settled in its next phase, if it is not settled then
  advance : (t : ℕ) (a : Head) (p : Phase) → t < length s.stations → is_settled (station_at s t).stage.phase ≡ false → unwrap_or (moves (station_at s t).stage.phase a) (station_at s t).stage.phase ≡ p → is_settled p ≡ false
      → Kept y (record d { phase = but t p d.phase }) (with_station t (on_stage (moved a) (station_at s t)) s)
  advance t a p there now is then =
      let l : t < length y.counts = here t there in
      let un = phase_moves y d t p (off t l now) then in
      record {
        stand = put_phase y.counts d.phase d.drawn d.paid s.stations t (on_stage (moved a) (station_at s t)) p h.stand l refl is refl;
        cash = h.cash;
        schedules = h.schedules;
        capacities = h.capacities;
        readings = h.readings;
        powers = h.powers;
        whole = whole_phase y d t p then h.whole;
        charges = charges_put s.rules y d _ s.stations t (on_stage (moved a) (station_at s t)) there l refl un h.charges;
        accounts = accounts_stay s.rules y d _ s.accounts un h.accounts;
      }

  -- the station of a generator, which takes the action
  record Takes (a : Head) (g : ℕ) : Type 0 where
    t : ℕ
    own : Within y.counts g t
    is : owner_of s g ≡ t
    takes : is_some (moves (station_at s t).stage.phase a) ≡ true

  owned : (a : Head) (g : ℕ) → generator_admission a g s ≡ None → Takes a g
  owned a g none =
      let ad = generator_admitted a g s none in
      let f = find y.counts g (omega (arith, ad.0, h.stand.all)) in
      let is : owner_of s g ≡ f.0 = owner_at s.stations y.counts g f.0 h.stand.many h.stand.first h.stand.count f.1 in
      record { t = f.0; own = f.1; is = is; takes = subst (λ (k : ℕ). is_some (moves (station_at s k).stage.phase a) ≡ true) is ad.1 }

  abbrev all : ℕ
  all = sum y.counts

  not_missing : (o : Option Place) → missing_reading o ≡ None → o ≡ None
  not_missing None e = refl
  not_missing (Some p) e = absurd (none-some (MissingReading p.generator p.block) (sym e))

  correct_at : (g b kw t : ℕ) → Within y.counts g t → is_some (moves (station_at s t).stage.phase Correct) ≡ true → b < BLOCKS → kw ≤ GENERATOR_KW
      → Kept y (accepting (call.Correct g b kw) d) (posted t (on_stage (moved Correct) (station_at s t)) (with_readings (set s.readings (entry g b) (Some kw)) s))
  correct_at g b kw t own takes last value =
      let l = own.station in
      let there : g < sum y.counts = in_all y.counts g t own in
      let ph = by_phase Correct (λ p q. (p ≡ Settled) × (q ≡ p)) (tt, tt, tt, (refl, refl)) (station_at s t).stage.phase takes in
      let x = on_stage (moved Correct) (station_at s t) in
      let r = but b (Some kw) (d.reading g) in
      let e = accepting (call.Correct g b kw) d in
      let page = set s.readings (entry g b) (Some kw) in
      let readings : Metered (sum y.counts) (but g r d.reading) page = record {
        room = omega (arith, h.readings.room, length-set s.readings (entry g b) (Some kw));
        at = replaced d.reading s.readings (Some kw) all g b there last h.readings.room h.readings.at;
        low = λ u c m q. each_but (λ k f. k < all → unwrap_or (f c) 0 ≤ GENERATOR_KW) g r d.reading
            (λ z. each_but (λ i v. i < BLOCKS → unwrap_or v 0 ≤ GENERATOR_KW) b (Some kw) (d.reading g) (λ k. value) (λ i ne k. h.readings.low g i z k) c q)
            (λ k ne z. h.readings.low k c z q) u m;
      } in
      let day = day_at (with_readings page s) t x.plant.members in
      let at : Placed y e day = record { sheet = sheeted y e (with_readings page s) h.schedules h.capacities readings h.powers; there = l; first = h.stand.first t l; count = h.stand.count t l } in
      let now : is_settled (d.phase t) ≡ true = ap is_settled (sym (h.stand.phase_is t l) ∙ ph.0) in
      let un = reading_elsewhere y d g t r own in
      record {
        stand = put_same y.counts d.phase d.drawn d.paid s.stations t _ h.stand l refl ph.1 refl;
        cash = h.cash;
        schedules = h.schedules;
        capacities = h.capacities;
        readings = readings;
        powers = powered y day s.accounts h.powers;
        whole = whole_reading y d g r (λ c yes. each_but (λ k v. is_some (d.reading g k) ≡ true → is_some v ≡ true) b (Some kw) (d.reading g) (λ z. refl) (λ k ne z. z) c yes) h.whole;
        charges = charged y d e day x at now un s.stations (omega (arith, h.stand.many)) h.charges;
        accounts = accounted y d e day x at now un s.accounts h.powers h.accounts;
      }

  -- the net of a station and the cash move, and with them what it drew and paid
  money_moves : (t cash : ℕ) (net : ℤ) (drawn paid : ℕ → ℕ) → t < length s.stations
      → ((u : ℕ) → but t (drawn t) d.drawn u ≡ drawn u) → ((u : ℕ) → but t (paid t) d.paid u ≡ paid u)
      → net ≡ pos (drawn t) -ℤ pos (paid t) → cash + added drawn many ≡ added paid many
      → Kept y (record d { drawn = drawn; paid = paid }) (with_cash cash (with_station t (on_balance (with_net net) (station_at s t)) s))
  money_moves t cash net drawn paid there draws pays is even =
      let l : t < length y.counts = here t there in
      let x = on_balance (with_net net) (station_at s t) in
      record {
        stand = agreeing y.counts (but t (d.phase t) d.phase) d.phase (but t (drawn t) d.drawn) drawn (but t (paid t) d.paid) paid _
            (but_own t (d.phase t) d.phase refl) draws pays
            (put y.counts d.phase d.drawn d.paid s.stations t x (d.phase t) (drawn t) (paid t) h.stand l refl (h.stand.phase_is t l) is);
        cash = even;
        schedules = h.schedules;
        capacities = h.capacities;
        readings = h.readings;
        powers = h.powers;
        whole = h.whole;
        charges = charges_put s.rules y d d s.stations t x there l refl (λ u m. still y d u) h.charges;
        accounts = h.accounts;
      }

  -- a call keeps it that keeps it where it is accepted
  accepted : (c : Call) (o : Option Fault) (e : State) (r : Answer) → (unless o s e).answer ≡ r
      → (o ≡ None → Kept y (accepting c d) e) → Kept y (after_answer c r d) (unless o s e).after
  accepted c None e r is taken = subst (λ (x : Answer). Kept y (after_answer c x d) e) is (taken refl)
  accepted c (Some f) e r is taken = subst (λ (x : Answer). Kept y (after_answer c x d) s) is h

  step_kept : (c : Call) (r : Answer) → (step c s).answer ≡ r → Kept y (after_answer c r d) (step c s).after
  step_kept (call.File t from to kw) r is = accepted (call.File t from to kw) _ _ r is (λ none.
      let c0 = first_none (admission File t s) _ none in
      let c1 = first_none (bad_blocks from to) _ c0.1 in
      let c2 = first_none (high_value 0 STATION_KW kw) [] c1.1 in
      let ad = admitted File t s c0.0 in
      let bs = blocks_pass from to c1.0 in
      let value = value_passes 0 STATION_KW kw c2.0 in
      let l : t < length y.counts = here t ad.there in
      let ph = by_phase File Stays ((refl, refl), tt, tt, tt) (station_at s t).stage.phase ad.takes in
      let x = on_stage (filed_on from to) (on_stage (moved File) (station_at s t)) in
      let r = but_in from to kw (d.schedule t) in
      let un = schedule_moves y d t r (off t l ph.0) in
      let long = length-replicate (to - from + 1) kw in
      record {
        stand = put_same y.counts d.phase d.drawn d.paid s.stations t x h.stand l refl ph.1 refl;
        cash = h.cash;
        schedules = scheduled t r _ (length_spliced (entry t from) (replicate (to - from + 1) kw) s.schedules (omega (arith, h.schedules.room, l, bs, long)))
            (filled 0 d.schedule s.schedules kw many t from to l h.schedules.room bs.1 bs.0 h.schedules.at)
            (λ b m q. each_in (λ k v. v ≤ STATION_KW) from to kw (d.schedule t) b value (h.schedules.low t b q m));
        capacities = h.capacities;
        readings = h.readings;
        powers = h.powers;
        whole = h.whole;
        charges = charges_put s.rules y d _ s.stations t x ad.there l refl un h.charges;
        accounts = accounts_stay s.rules y d _ s.accounts un h.accounts;
      })
  step_kept (call.Declare g from to kw) r is = accepted (call.Declare g from to kw) _ _ r is (λ none.
      let c0 = first_none (generator_admission Declare g s) _ none in
      let c1 = first_none (bad_blocks from to) _ c0.1 in
      let c2 = first_none (high_value 0 (installed_power_at s.accounts g) kw) [] c1.1 in
      let o = owned Declare g c0.0 in
      let bs = blocks_pass from to c1.0 in
      let there : g < sum y.counts = in_all y.counts g o.t o.own in
      let value : kw ≤ get_or y.installed g 0 = let v = value_passes 0 (installed_power_at s.accounts g) kw c2.0 in omega (arith, v, h.powers.at g there, h.powers.least g there, h.powers.most g there) in
      let r = but_in from to kw (d.capacity g) in
      let un = capacity_moves y d g o.t r o.own (off o.t o.own.station (by_phase Declare Stays ((refl, refl), (refl, refl), tt, tt) _ o.takes).0) in
      let long = length-replicate (to - from + 1) kw in
      record {
        stand = h.stand;
        cash = h.cash;
        schedules = h.schedules;
        capacities = record {
          room = omega (arith, h.capacities.room, length_spliced (entry g from) (replicate (to - from + 1) kw) s.capacities (omega (arith, h.capacities.room, there, bs, long)));
          at = filled 0 d.capacity s.capacities kw all g from to there h.capacities.room bs.1 bs.0 h.capacities.at;
          low = λ u b l m. each_but (λ k f. k < all → f b ≤ get_or y.installed k 0) g r d.capacity
              (λ q. each_in (λ i v. v ≤ get_or y.installed g 0) from to kw (d.capacity g) b value (h.capacities.low g b q m))
              (λ k ne q. h.capacities.low k b q m) u l;
        };
        readings = h.readings;
        powers = h.powers;
        whole = h.whole;
        charges = charges_stay s.rules y d _ s.stations un h.charges;
        accounts = accounts_stay s.rules y d _ s.accounts un h.accounts;
      })
  step_kept (call.Issue t) r is = accepted (call.Issue t) _ _ r is (λ none.
      let ad = admitted Issue t s (first_none (admission Issue t s) _ none).0 in
      let ph = by_phase Issue (LeadsTo Running) ((refl, refl), tt, tt, tt) (station_at s t).stage.phase ad.takes in
      advance t Issue Running ad.there ph.0 ph.1 refl)
  step_kept (call.Revise t k n vs) r is = accepted (call.Revise t k n vs) _ _ r is (λ none.
      let c0 = first_none (admission Revise t s) _ none in
      let ad = admitted Revise t s c0.0 in
      let ok = revisable k n vs.now (station_at s t) c0.1 in
      let l : t < length y.counts = here t ad.there in
      let ph = by_phase Revise Stays (tt, (refl, refl), tt, tt) (station_at s t).stage.phase ad.takes in
      let slot = unwrap_or (slot_of (station_at s t).plant.kind n) 0 in
      let x = on_stage (revised_in slot) (on_stage (moved Revise) (station_at s t)) in
      let r = revised_from n vs.now (d.schedule t) in
      let un = schedule_moves y d t r (off t l ph.0) in
      record {
        stand = put_same y.counts d.phase d.drawn d.paid s.stations t x h.stand l refl ph.1 refl;
        cash = h.cash;
        schedules = scheduled t r _ (length_spliced (entry t (first_revised n)) vs.now s.schedules (omega (arith, h.schedules.room, l, ok.low, ok.counted)))
            (revised d.schedule s.schedules vs.now many t n l h.schedules.room ok.low ok.counted h.schedules.at)
            (λ b m q. cond_both (leb (first_revised n) b) (get_or vs.now (b - (first_revised n)) 0) (d.schedule t b) (λ v. v ≤ STATION_KW) (λ e. ok.each (b - (first_revised n)) (let z = leb-true (first_revised n) b e in omega (arith, ok.counted, ok.low))) (λ e. h.schedules.low t b q m));
        capacities = h.capacities;
        readings = h.readings;
        powers = h.powers;
        whole = h.whole;
        charges = charges_put s.rules y d _ s.stations t x ad.there l refl un h.charges;
        accounts = accounts_stay s.rules y d _ s.accounts un h.accounts;
      })
  step_kept (call.Close t) r is = accepted (call.Close t) _ _ r is (λ none.
      let ad = admitted Close t s none in
      let ph = by_phase Close (LeadsTo Metering) (tt, (refl, refl), tt, tt) (station_at s t).stage.phase ad.takes in
      advance t Close Metering ad.there ph.0 ph.1 refl)
  step_kept (call.Read g from to kw) r is = accepted (call.Read g from to kw) _ _ r is (λ none.
      let c0 = first_none (generator_admission Read g s) _ none in
      let c1 = first_none (bad_blocks from to) _ c0.1 in
      let c2 = first_none (high_value 0 GENERATOR_KW kw) [] c1.1 in
      let o = owned Read g c0.0 in
      let bs = blocks_pass from to c1.0 in
      let there : g < sum y.counts = in_all y.counts g o.t o.own in
      let value = value_passes 0 GENERATOR_KW kw c2.0 in
      let r = but_in from to (Some kw) (d.reading g) in
      let un = reading_moves y d g o.t r o.own (off o.t o.own.station (by_phase Read Stays (tt, tt, (refl, refl), tt) _ o.takes).0) in
      let long = length-replicate (to - from + 1) (Some kw) in
      record {
        stand = h.stand;
        cash = h.cash;
        schedules = h.schedules;
        capacities = h.capacities;
        readings = record {
          room = omega (arith, h.readings.room, length_spliced (entry g from) (replicate (to - from + 1) (Some kw)) s.readings (omega (arith, h.readings.room, there, bs, long)));
          at = filled None d.reading s.readings (Some kw) all g from to there h.readings.room bs.1 bs.0 h.readings.at;
          low = λ u b l m. each_but (λ k f. k < all → unwrap_or (f b) 0 ≤ GENERATOR_KW) g r d.reading
              (λ q. each_in (λ i v. unwrap_or v 0 ≤ GENERATOR_KW) from to (Some kw) (d.reading g) b value (h.readings.low g b q m))
              (λ k ne q. h.readings.low k b q m) u l;
        };
        powers = h.powers;
        whole = whole_reading y d g r (λ b yes. each_in (λ i v. is_some v ≡ true) from to (Some kw) (d.reading g) b refl yes) h.whole;
        charges = charges_stay s.rules y d _ s.stations un h.charges;
        accounts = accounts_stay s.rules y d _ s.accounts un h.accounts;
      })
  step_kept (call.Settle t) r is = accepted (call.Settle t) _ _ r is (λ none.
      let c0 = first_none (admission Settle t s) _ none in
      let c1 = first_none (missing_reading (first_missing_of s.readings None (station_at s t).plant.members)) [] c0.1 in
      let ad = admitted Settle t s c0.0 in
      let l : t < length y.counts = here t ad.there in
      let ph = by_phase Settle (LeadsTo Settled) (tt, tt, (refl, refl), tt) (station_at s t).stage.phase ad.takes in
      let x = on_stage (moved Settle) (station_at s t) in
      let e = accepting (call.Settle t) d in
      let day = day_at s t x.plant.members in
      let a = h.stand.first t l in
      let b = h.stand.count t l in
      let at : Placed y e day = record { sheet = sheeted y e s h.schedules h.capacities h.readings h.powers; there = l; first = a; count = b } in
      let now : is_settled (e.phase t) ≡ true = ap is_settled (but_same t Settled d.phase) in
      let un = settled_moves y d t in
      let seen = first_is s.readings None x.plant.members None (sym (not_missing _ c1.0)) in
      record {
        stand = put_phase y.counts d.phase d.drawn d.paid s.stations t _ Settled h.stand l refl ph.1 refl;
        cash = h.cash;
        schedules = h.schedules;
        capacities = h.capacities;
        readings = h.readings;
        powers = powered y day s.accounts h.powers;
        whole = λ u g c on w q. elim (cases_eq u t) [
          | inl same ↦
              let v : Within y.counts g t = subst (Within y.counts g) same w in
              there g c v q (seen c g q (omega (arith, v.low, a)) (omega (arith, v.high, a, b)))
          | inr ne ↦ h.whole u g c (ap is_settled (sym (but_other t Settled d.phase u ne)) ∙ on) w q
        ];
        charges = charged y d e day x at now un s.stations ad.there h.charges;
        accounts = accounted y d e day x at now un s.accounts h.powers h.accounts;
      })
    where
      there : (g c : ℕ) → Within y.counts g t → c < BLOCKS → missing_at s.readings None g c ≡ false → is_some (d.reading g c) ≡ true
      there g c w q e = sym (ap is_some (h.readings.at g c (in_all y.counts g t w) q)) ∙ elim (and_cases (not (is_some (get_or s.readings (entry g c) None))) true e) [
        | inl f ↦ not-false _ f
        | inr f ↦ absurd (false≢true (sym f))
      ]
  step_kept (call.Correct g b kw) r is = accepted (call.Correct g b kw) _ _ r is (λ none.
      let c0 = first_none (generator_admission Correct g s) _ none in
      let c1 = first_none (bad_blocks b b) _ c0.1 in
      let c2 = first_none (high_value 0 GENERATOR_KW kw) _ c1.1 in
      let o = owned Correct g c0.0 in
      subst (λ (k : ℕ). Kept y (accepting (call.Correct g b kw) d) (posted k (on_stage (moved Correct) (station_at s k)) (with_readings (set s.readings (entry g b) (Some kw)) s)))
      (sym o.is) (correct_at g b kw o.t o.own o.takes (blocks_pass b b c1.0).0 (value_passes 0 GENERATOR_KW kw c2.0)))
  step_kept (call.Pay t x) r is = accepted (call.Pay t x) _ _ r is (λ none.
      let there = (present t s (first_none (presence t s) _ none).0).1 in
      let n = h.stand.net t (here t there) in
      let own = but_same t (d.paid t + x) d.paid in
      money_moves t _ _ d.drawn (but t (d.paid t + x) d.paid) there
      (but_own t (d.drawn t) d.drawn refl) (λ u. ap (λ v. but t v d.paid u) own)
      (omega (arith, ints, n, own)) (omega (arith, h.cash, added_more d.paid t x many (here t there))))
  step_kept (call.Draw t x) r is = accepted (call.Draw t x) _ _ r is (λ none.
      let c0 = first_none (presence t s) _ none in
      let c1 = first_none (bad_amount t x) _ c0.1 in
      let c2 = first_none (above_due t x (station_at s t).balance) _ c1.1 in
      let c3 = first_none (above_cash t x s.cash) [] c2.1 in
      let enough : x ≤ s.cash = ltb-false _ _ (when_none (ltb s.cash x) _ c3.0) in
      let there = (present t s c0.0).1 in
      let n = h.stand.net t (here t there) in
      let own = but_same t (d.drawn t + x) d.drawn in
      money_moves t _ _ (but t (d.drawn t + x) d.drawn) d.paid there
      (λ u. ap (λ v. but t v d.drawn u) own) (but_own t (d.paid t) d.paid refl)
      (omega (arith, ints, n, own)) (omega (arith, h.cash, enough, added_more d.drawn t x many (here t there))))

-- and calls one after another
pub run_kept : (y : Layout) (cs : List Call) (rs : List Answer) (d : Data) (s e : State) → Kept y d s → Run s cs rs e → Kept y (data_after cs rs d) e
run_kept y [] [] d s e h run = subst (Kept y d) run h
run_kept y [] (r ∷ rs) d s e h run = absurd run
run_kept y (c ∷ cs) [] d s e h run = absurd run
run_kept y (c ∷ cs) (r ∷ rs) d s e h run = run_kept y cs rs (after_answer c r d) (step c s).after e (step_kept y d s h c r run.0) run.1
