-- One station more is settled.
use Rattle.std.proofs.Common.{◌≡◌, ℕ, ◌+◌, ◌*◌, ◌<◌, ◌≤◌, ◌≢◌, List, length, get_or, set, ℤ, pos, ◌+ℤ◌, Some, None, Ok, Option, sym, refl, ap, ◌∙◌, subst, ⊎_elim, inl, arith}
use Rattle.book.specs.Calls.{Answer, Does, posted, settling, unless}
use Rattle.book.specs.States.{State, day_at, nobody, station_at}
use Rattle.book.specs.Stations.{moved, on_balance, on_stage, settled_at}
use Rattle.units.specs.declared.head.Head.TheVariants.{Settle}
use Rattle.book.specs.declared.station.Station.{Station}
use Rattle.posting.proofs.Accounts.{changed_in, changed_out, length_changed, powers_kept}
use Rattle.posting.specs.Days.{StationDay, account_after, no_account, standing_charges}
use Rattle.posting.specs.Sheets.{Sheet}
use Rattle.posting.specs.declared.account.Account.{Account}
use Rattle.posting.specs.declared.members.Members.{Members}
use Rattle.settle_bench.specs.Full.{Done, DoneTo, Full, Placed, Sixteen, bench_rules, day_by, energy_of, money_of}
use Rattle.settle_bench.proofs.Writes.{same_shares}
use Rattle.settle_bench.specs.Reports.{AllSettled, Reports}
use Rattle.settle_bench.specs.declared.shares.Shares.{Shares}
use Rattle.std.proofs.lemmas.List.{get_or-set_other, get_or-set_same, length-set}
use Rattle.std.proofs.lemmas.Bool.{cases_eq, cases_lt}
use Rattle.units.specs.declared.fault.Fault.{Fault}
use lib.IntN.{+ℤ_idr}
use Rattle.units.specs.declared.limits.TheConstants.{GENERATORS, STATIONS}

-- an accepted call leaves what it computes
pub taken : (c : Option Fault) (z e after : State) (r : Answer) → Does (unless c z e) r after → r ≡ Ok tt → after ≡ e
taken None z e after r does ok = does.after
taken (Some f) z e after r does ok = let z : ◌≡◌ {A = ℕ} 0 1 = cc in absurd (omega arith)

-- a station changed, but for its generators and its payments
pub still_sixteen : (ss : List Station) (t : ℕ) (x : Station) → t < STATIONS → x.plant.members ≡ (get_or ss t nobody).plant.members → x.balance.net ≡ (get_or ss t nobody).balance.net → Sixteen ss → Sixteen (set ss t x)
still_sixteen ss t x h members net old =
    let within : t < length ss = rw old.many h in
    let same = get_or-set_same ss t x nobody within in
    record {
      many = length-set ss t x ∙ old.many;
      placed = λ u l. ⊎_elim
          (λ (q : u ≡ t). subst (λ (n : ℕ). Placed n (get_or (set ss t x) n nobody).plant.members) (sym q)
          (subst (λ (m : Members). Placed t m) (sym (ap (λ (y : Station). y.plant.members) same ∙ members)) (old.placed t h)))
          (λ (q : u ≢ t). subst (λ (y : Station). Placed u y.plant.members) (sym (get_or-set_other ss t u x nobody q)) (old.placed u l))
          (cases_eq u t);
      even = λ u l. ⊎_elim
          (λ (q : u ≡ t). subst (λ (n : ℕ). (get_or (set ss t x) n nobody).balance.net ≡ pos 0) (sym q) (ap (λ (y : Station). y.balance.net) same ∙ net ∙ old.even t h))
          (λ (q : u ≢ t). ap (λ (y : Station). y.balance.net) (get_or-set_other ss t u x nobody q) ∙ old.even u l)
          (cases_eq u t);
    }

-- the station t is posted
module _ (s : Sheet) (z : State) (t : ℕ) (h : t < STATIONS) (full : Full s z) (by : z.rules ≡ bench_rules) where
  abbrev x : Station
  x = on_stage (moved Settle) (station_at z t)

  abbrev e : State
  e = posted t x z

  abbrev day : StationDay
  day = day_at z t x.plant.members

  day_is : day ≡ day_by s t x.plant.members
  day_is = let sheet = full.sheet in cc

  abbrev after_posting : ℕ → Account → Account
  after_posting = account_after day

  abbrev done_station : Station
  done_station = on_balance (settled_at (standing_charges day)) x

  here : station_at e t ≡ done_station
  here = get_or-set_same z.stations t done_station nobody (rw full.stations.many h)

  still_full : Full s e
  still_full = record {
    sheet = ap (λ (powers : List ℕ). record { schedules = z.schedules; capacities = z.capacities; readings = z.readings; installed = powers }) (powers_kept day z.accounts) ∙ full.sheet;
    accounts = length_changed x.plant.members.first x.plant.members.count after_posting z.accounts ∙ full.accounts;
    stations = still_sixteen z.stations t done_station h refl refl full.stations;
  }

  -- a station before it keeps what it had
  earlier : (u : ℕ) → u < t → Done s z u → Done s e u
  earlier u l old =
      let ne : u ≢ t = λ q. omega arith in
      let same = sym (get_or-set_other z.stations t u done_station nobody ne) in
      let kept : (k : ℕ) → k < GENERATORS → get_or e.accounts (GENERATORS * u + k) no_account ≡ get_or z.accounts (GENERATORS * u + k) no_account = λ k b.
      changed_out x.plant.members.first x.plant.members.count after_posting z.accounts (GENERATORS * u + k) no_account (omega (arith, full.accounts))
      (inl (omega (arith, (full.stations.placed t h).first))) in
      record {
        charges = subst (λ (y : Station). y.balance.charges ≡ standing_charges (day_by s u y.plant.members)) same old.charges;
        money = λ k b. ap (λ (a : Account). a.money) (kept k b) ∙ subst (λ (y : Station). (get_or z.accounts (GENERATORS * u + k) no_account).money ≡ money_of s u y.plant.members k) same (old.money k b);
        energy = λ k b. ap (λ (a : Account). a.energy) (kept k b) ∙ subst (λ (y : Station). (get_or z.accounts (GENERATORS * u + k) no_account).energy ≡ energy_of s u y.plant.members k) same (old.energy k b);
      }

  itself : Done s e t
  itself =
      let place = full.stations.placed t h in
      let m = x.plant.members in
      let shared : (k : ℕ) → k < GENERATORS → get_or e.accounts (GENERATORS * t + k) no_account ≡ account_after (day_by s t m) k (get_or z.accounts (GENERATORS * t + k) no_account) = λ k b.
      subst (λ (n : ℕ). get_or e.accounts (n + k) no_account ≡ account_after (day_by s t m) k (get_or z.accounts (n + k) no_account)) place.first
      (subst (λ (y : StationDay). get_or e.accounts (m.first + k) no_account ≡ account_after y k (get_or z.accounts (m.first + k) no_account)) day_is
      (changed_in m.first m.count after_posting z.accounts k no_account (omega (arith, place.count)) (omega (arith, place.first, full.accounts)))) in
      record {
        charges = subst (λ (y : Station). y.balance.charges ≡ standing_charges (day_by s t y.plant.members)) (sym here) (ap standing_charges day_is);
        money = λ k b. ap (λ (a : Account). a.money) (shared k b) ∙ ap (λ (y : Station). money_of s t y.plant.members k) (sym here);
        energy = λ k b. ap (λ (a : Account). a.energy) (shared k b) ∙ ap (λ (y : Station). energy_of s t y.plant.members k) (sym here);
      }

pub settle_more : (s : Sheet) (z after : State) (r : Answer) (t : ℕ) → t < STATIONS → z.rules ≡ bench_rules → DoneTo t s z → Does (settling t z) r after → r ≡ Ok tt → DoneTo (t + 1) s after
settle_more s z after r t h by old does ok =
    subst (λ (y : State). DoneTo (t + 1) s y) (sym (taken _ z (e s z t h old.full by) after r does ok)) (record {
      full = still_full s z t h old.full by;
      done = λ u l. ⊎_elim
          (λ (q : u < t). earlier s z t h old.full by u q (old.done u q))
          (λ (q : t ≤ u). subst (λ (n : ℕ). Done s (e s z t h old.full by) n) (omega arith) (itself s z t h old.full by))
          (cases_lt u t);
    })

pub none_done : (s : Sheet) (z : State) → Full s z → DoneTo 0 s z
none_done s z full = record { full = full; done = λ t l. let none : ⊥ = omega arith in elim none [ ] }

-- a settled book is reported
pub all_settled : (s : Sheet) (z : State) (dues : List ℤ) (shares : List Shares) → DoneTo STATIONS s z → Reports z dues shares → AllSettled s dues shares
all_settled s z dues shares to reports t h =
    let x = station_at z t in
    let done = to.done t h in
    record {
      members = x.plant.members;
      placed = to.full.stations.placed t h;
      due = λ l. reports.due t l ∙ ap (λ (n : ℤ). x.balance.charges +ℤ n) (to.full.stations.even t h) ∙ +ℤ_idr x.balance.charges ∙ done.charges;
      share = λ k b l. reports.share (GENERATORS * t + k) l ∙ same_shares (done.money k b) (done.energy k b);
    }
