-- The law, from what the data and the book have in common.
use Rattle.std.proofs.Common.{◌≡◌, ℕ, zero, suc, ◌+◌, ◌-◌, ◌*◌, ◌<◌, ◌≤◌, ◌&&◌, Bool, true, false, not, cond, List, [], length, get_or, sum, ℤ, pos, ◌+ℤ◌, ◌-ℤ◌, Some, None, Option, is_some, sym, refl, ap, ◌∙◌, subst, arith}
use Rattle.book.proofs.Causes.{none_first, none_when}
use Rattle.book.specs.Lists.{entry}
use Rattle.book.specs.Calls.{missing_reading}
use Rattle.book.specs.Causes.{bad_blocks}
use Rattle.book.specs.Questions.{account_answer, charge_answer, charge_refusal, missing_in_block, share_answer, share_refusal}
use Rattle.book.specs.States.{State, admission, day_at, generator_admission, generator_presence, generators, no_generator, no_station, owner_of, presence, short_page, short_pages, station_at, wrong_phase}
use Rattle.book.specs.Stations.{Ask, due_of, is_settled, moves}
use Rattle.law.proofs.Kept.{Kept, Placed, figures_are, loads_are, share_is, sheeted}
use Rattle.law.proofs.Places.{Within, ends_all, find, in_all, owner_at}
use Rattle.law.proofs.Same.{same_account, same_days, same_standing, unmoved}
use Rattle.law.proofs.Together.{all_there}
use Rattle.law.specs.Data.{Data, Layout}
use Rattle.law.specs.Figures.{added, count_of, figures_of, first_of, loads_in, loads_of, share_of, standing, stations_in, weights_of}
use Rattle.law.specs.Laws.{BlockLaw, Close, Law, SameData, SameDays, SameMoney, SameStation}
use Rattle.posting.proofs.Blocks.{block_alive}
use Rattle.posting.proofs.Sums.{all_shares, sum_to_same}
use Rattle.posting.specs.Days.{StationDay, share_at, sum_to}
use Rattle.posting.specs.Missing.{missing_at, missing_in}
use Rattle.share.proofs.Fairness.{fair}
use Rattle.share.specs.Keys.{NeverVanish, weights}
use Rattle.std.proofs.lemmas.Bool.{cond-false, le-ltb, lt-leb, or_from}
use Rattle.std.proofs.lemmas.Int.{ints}
use Rattle.std.proofs.lemmas.List.{length-map}
use Rattle.units.specs.declared.fault.Page.TheVariants.{Schedules, Capacities, Readings, Accounts}
use Rattle.units.specs.declared.station.Phase.TheVariants.{Settled}
use Rattle.units.specs.declared.limits.TheConstants.{BLOCKS}

length_in : (y : Layout) (d : Data) (b g n : ℕ) → length (loads_in y d b g n) ≡ n
length_in y d b g zero = refl
length_in y d b g (suc n) = ap suc (length_in y d b (g + 1) n)

-- no reading is missing of n generators from g on
none_missing : (rs : List (Option ℕ)) (b g n : ℕ) → ((k : ℕ) → g ≤ k → k < g + n → is_some (get_or rs (entry k b) None) ≡ true) → missing_in rs None b g n ≡ None
none_missing rs b g zero f = refl
none_missing rs b g (suc n) f =
    cond-false (missing_at rs None g b) (Some (record { generator = g; block = b })) (missing_in rs None b (g + 1) n) (seen (is_some (get_or rs (entry g b) None)) (f g (omega arith) (omega arith)))
    ∙ none_missing rs b (g + 1) n (λ k p q. f k (omega arith) (omega arith))
  where
    seen : (x : Bool) → x ≡ true → (not x && true) ≡ false
    seen x e = ap (λ z. not z && true) e

module _ (y : Layout) (d : Data) (s : State) (h : Kept y d s) where
  pages_fit : short_pages s ≡ None
  pages_fit =
      let n = h.stand.many in
      let a : generators s ≡ sum y.counts = h.stand.all in
      none_first (short_page Schedules (length s.schedules) (BLOCKS * length s.stations)) _ (none_when _ _ (le-ltb _ _ (omega (arith, n, h.schedules.room))))
      (none_first (short_page Capacities (length s.capacities) (BLOCKS * generators s)) _ (none_when _ _ (le-ltb _ _ (omega (arith, a, h.capacities.room))))
      (none_first (short_page Readings (length s.readings) (BLOCKS * generators s)) _ (none_when _ _ (le-ltb _ _ (omega (arith, a, h.readings.room))))
      (none_first (short_page Accounts (length s.accounts) (generators s)) [] (none_when _ _ (le-ltb _ _ (omega (arith, a, h.powers.room)))) refl)))

  no_station_missing : (t : ℕ) → t < stations_in y → no_station t s ≡ None
  no_station_missing t l = none_when _ _ (lt-leb _ _ (omega (arith, h.stand.many)))

  module _ (t : ℕ) (there : t < length y.counts) where
    own : (k : ℕ) → k < count_of y t → Within y.counts (first_of y t + k) t
    own k l = record { station = there; low = omega arith; high = omega arith }

    owner_is : (k : ℕ) → k < count_of y t → owner_of s (first_of y t + k) ≡ t
    owner_is k l = owner_at s.stations y.counts (first_of y t + k) t h.stand.many h.stand.first h.stand.count (own k l)

    generator_there : (k : ℕ) → k < count_of y t → generator_presence (first_of y t + k) s ≡ None
    generator_there k l =
        none_first (short_pages s) _ pages_fit
        (none_first (no_generator (first_of y t + k) s) [] (none_when _ _ (lt-leb _ _ (omega (arith, h.stand.all, in_all y.counts (first_of y t + k) t (own k l))))) refl)

    abbrev day : StationDay
    day = day_at s t (station_at s t).plant.members

    placed : Placed y d day
    placed = record { sheet = sheeted y d s h.schedules h.capacities h.readings h.powers; there = there; first = h.stand.first t there; count = h.stand.count t there }

    charge_is : (b : ℕ) → b < BLOCKS → charge_answer t b s ≡ figures_of s.rules y d t b
    charge_is b l = figures_are y d day placed b l

    share_told : (k b : ℕ) → k < count_of y t → b < BLOCKS → share_answer (first_of y t + k) b s ≡ share_of s.rules y d t k b
    share_told k b m l =
        let first = h.stand.first t there in
        let place : first_of y t + k - (station_at s t).plant.members.first ≡ k = omega (arith, first) in
        ap (λ u. share_at (day_at s u (station_at s u).plant.members) (first_of y t + k - (station_at s u).plant.members.first) b) (owner_is k m)
        ∙ ap (λ j. share_at day j b) place
        ∙ share_is y d day placed k b l

    -- the weights
    many_weights : (b : ℕ) → length (weights_of s.rules y d t b) ≡ count_of y t
    many_weights b = length-map (loads_of y d t b) _ ∙ length_in y d b (first_of y t) (count_of y t)

    alive_here : NeverVanish s.rules.weighs → (b : ℕ) → b < BLOCKS → 0 < sum (weights_of s.rules y d t b)
    alive_here alive b l =
        subst (λ ls. 0 < sum (weights s.rules.weighs ls)) (loads_are y d day placed b l) (block_alive day alive b)

    module _ (settled : d.phase t ≡ Settled) where
      in_phase : (station_at s t).stage.phase ≡ Settled
      in_phase = h.stand.phase_is t there ∙ settled

      asks : (u : ℕ) → u ≡ t → wrong_phase Ask u (station_at s u).stage.phase ≡ None
      asks u e = none_when (not (is_some (moves (station_at s u).stage.phase Ask))) _ (ap (λ k. not (is_some (moves (station_at s k).stage.phase Ask))) e ∙ ap (λ p. not (is_some (moves p Ask))) in_phase)

      block_fine : (b : ℕ) → b < BLOCKS → bad_blocks b b ≡ None
      block_fine b l = none_when _ _ (or_from _ _ (lt-leb _ _ l) (le-ltb b b (omega arith)))

      all_read : (b : ℕ) → b < BLOCKS → missing_in_block t b s ≡ None
      all_read b l =
          let first = h.stand.first t there in
          let count = h.stand.count t there in
          ap missing_reading (none_missing s.readings b (station_at s t).plant.members.first (station_at s t).plant.members.count (λ k p q.
          let w : Within y.counts k t = record { station = there; low = omega (arith, first); high = omega (arith, first, count) } in
          ap is_some (h.readings.at k b (in_all y.counts k t w) l) ∙ h.whole t k b (ap is_settled settled) w l))

      charge_asked : (b : ℕ) → b < BLOCKS → charge_refusal t b s ≡ None
      charge_asked b l =
          none_first (admission Ask t s) _
          (none_first (presence t s) _ (none_first (short_pages s) _ pages_fit (none_first (no_station t s) [] (no_station_missing t there) refl)) (none_first (wrong_phase Ask t (station_at s t).stage.phase) [] (asks t refl) refl))
          (none_first (bad_blocks b b) _ (block_fine b l) (none_first (missing_in_block t b s) [] (all_read b l) refl))

      share_asked : (k b : ℕ) → k < count_of y t → b < BLOCKS → share_refusal (first_of y t + k) b s ≡ None
      share_asked k b m l =
          let g = first_of y t + k in
          let o = owner_is k m in
          none_first (generator_admission Ask g s) _
          (none_first (generator_presence g s) _ (generator_there k m) (none_first (wrong_phase Ask (owner_of s g) (station_at s (owner_of s g)).stage.phase) [] (asks (owner_of s g) o) refl))
          (none_first (bad_blocks b b) _ (block_fine b l) (none_first (missing_in_block (owner_of s g) b s) [] (ap (λ u. missing_in_block u b s) o ∙ all_read b l) refl))

      block_law : NeverVanish s.rules.weighs → (b : ℕ) → b < BLOCKS → BlockLaw y d s t b
      block_law alive b l =
          let ws = weights_of s.rules y d t b in
          let long = many_weights b in
          let some = alive_here alive b l in
          let f = figures_of s.rules y d t b in
          let is = charge_is b l in
          let fm = fair f.money ws some in
          let fe = fair f.energy ws some in
          record {
            charged = charge_asked b l;
            shared = λ k m. share_asked k b m l;
            figures = is;
            money = sum_to_same _ _ (count_of y t) (λ k m. ap (λ a. a.money) (share_told k b m l)) ∙ all_shares f.money ws (count_of y t) long some ∙ sym (ap (λ a. a.money) is);
            energy = sum_to_same _ _ (count_of y t) (λ k m. ap (λ a. a.energy) (share_told k b m l)) ∙ all_shares f.energy ws (count_of y t) long some ∙ sym (ap (λ a. a.energy) is);
            split = λ k m. share_told k b m l;
            money_close = λ k m. moved _ _ _ _ (get_or ws k 0) (sum ws) (ap (λ a. a.money) (share_told k b m l)) (ap (λ a. a.money) is) (fm.close k (omega (arith, long)));
            energy_close = λ k m. moved _ _ _ _ (get_or ws k 0) (sum ws) (ap (λ a. a.energy) (share_told k b m l)) (ap (λ a. a.energy) is) (fe.close k (omega (arith, long)));
          }
        where
          moved : (x x' a a' : ℤ) (w all : ℕ) → x ≡ x' → a ≡ a' → Close x' a' w all → Close x a w all
          moved x x' a a' w all p q c = subst (λ z. Close z a w all) (sym p) (subst (λ z. Close x' z w all) (sym q) c)

      settled_account : (k : ℕ) → k < count_of y t
          → ((account_answer (first_of y t + k) s).money ≡ sum_to (λ b. (share_answer (first_of y t + k) b s).money) BLOCKS)
          × ((account_answer (first_of y t + k) s).energy ≡ sum_to (λ b. (share_answer (first_of y t + k) b s).energy) BLOCKS)
      settled_account k m = (
        ap (λ a. a.money) (h.accounts t k there m) ∙ ap (λ p. cond (is_settled p) (sum_to (λ b. (share_of s.rules y d t k b).money) BLOCKS) (pos 0)) settled ∙ sum_to_same _ _ BLOCKS (λ b l. sym (ap (λ a. a.money) (share_told k b m l))),
        ap (λ a. a.energy) (h.accounts t k there m) ∙ ap (λ p. cond (is_settled p) (sum_to (λ b. (share_of s.rules y d t k b).energy) BLOCKS) (pos 0)) settled ∙ sum_to_same _ _ BLOCKS (λ b l. sym (ap (λ a. a.energy) (share_told k b m l))),
      )

    due_is : due_of (station_at s t).balance ≡ (standing s.rules y d t +ℤ pos (d.drawn t)) -ℤ pos (d.paid t)
    due_is = let c = h.charges t there in let n = h.stand.net t there in omega (arith, ints, c, n)

  pub law_holds : NeverVanish s.rules.weighs → Law y d s
  law_holds alive = record {
    many = h.stand.many;
    cash = omega (arith, ints, h.cash);
    stations = λ t l. record {
      there = no_station_missing t l;
      stated = none_first (short_pages s) _ pages_fit (none_first (no_station t s) [] (no_station_missing t l) refl);
      phase = h.stand.phase_is t l;
      charges = h.charges t l;
      due = due_is t l;
    };
    blocks = λ t b l m settled. block_law t l settled alive b m;
    accounts = λ t k l m. record {
      answered = generator_there t l k m;
      account = h.accounts t k l m;
      money = λ settled. (settled_account t l settled k m).0;
      energy = λ settled. (settled_account t l settled k m).1;
    };
  }

-- Two books that were led to the same data.

days_same : (y : Layout) (d e : Data) → SameData y d e → (t : ℕ) → t < stations_in y → SameDays y d e t
days_same y d e same t h = same_days y d e t refl (λ u w.
    let there : u < stations_in y = all_there y d t u h w in
    let one : (k : ℕ) → k < count_of y u → first_of y u + k < sum y.counts = λ k m. omega (arith, ends_all y.counts u there) in
    record {
      phase = same.phases u there;
      schedule = λ b l. same.schedules u b there l;
      capacities = λ k b m l. same.capacities (first_of y u + k) b (one k m) l;
      readings = λ k b m l. same.readings (first_of y u + k) b (one k m) l;
    })

added_same : (f g : ℕ → ℕ) (n : ℕ) → ((t : ℕ) → t < n → f t ≡ g t) → added f n ≡ added g n
added_same f g zero h = refl
added_same f g (suc n) h = omega (arith, added_same f g n (λ t l. h t (omega arith)), h n (omega arith))

-- the state z was reached under the same rules
module _ (y : Layout) (d e : Data) (s z : State) (h : Kept y d s) (k : Kept y e (record z { rules = s.rules })) where
  pub station_same : (t : ℕ) → t < stations_in y → SameDays y d e t → SameStation y t s z
  station_same t l same =
      let u = unmoved y d e t same in
      record {
        charges = h.charges t l ∙ same_standing s.rules y d e t u ∙ sym (k.charges t l);
        accounts = λ j m. h.accounts t j l m ∙ same_account s.rules y d e t u j ∙ sym (k.accounts t j l m);
      }

  pub money_same : SameData y d e → SameMoney y s z
  money_same same = record {
    cash = omega (arith, h.cash, k.cash, added_same d.drawn e.drawn (stations_in y) same.drawn, added_same d.paid e.paid (stations_in y) same.paid);
    dues = λ t l.
        let a = (station_same t l (days_same y d e same t l)).charges in
        let n = h.stand.net t l in
        let m = k.stand.net t l in
        omega (arith, ints, a, n, m, same.drawn t l, same.paid t l);
    accounts = λ g l.
        let f = find y.counts g l in
        let w = f.1 in
        let place : first_of y f.0 + (g - first_of y f.0) ≡ g = omega (arith, w.low) in
        let few : g - first_of y f.0 < count_of y f.0 = omega (arith, w.low, w.high) in
        subst (λ (j : ℕ). account_answer j s ≡ account_answer j z) place
        ((station_same f.0 w.station (days_same y d e same f.0 w.station)).accounts (g - first_of y f.0) few);
  }
