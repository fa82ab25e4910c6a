-- Stations that have just been opened.
use Rattle.std.proofs.Common.{◌≡◌, ℕ, zero, suc, ◌+◌, ◌<◌, List, [], ◌∷◌, map, length, get_or, sum, take, pos, sym, refl, ap, ◌∙◌, arith, pow_pos}
use Rattle.book.specs.Opening.{generators_in, station_opened, opened_stations, View, view_of}
use Rattle.book.specs.Sound.{generators_of, IsSound, Laid, nets, slots_of}
use Rattle.book.specs.declared.station.Station.{Station}
use Rattle.std.proofs.lemmas.Int.{ints}
use Rattle.std.proofs.lemmas.List.Sums.{sum_by-cons}
use Rattle.std.specs.List.{All}

heads : {X : Type 0} {x y : X} {xs ys : List X} → x ∷ xs ≡ y ∷ ys → x ≡ y
heads e = cc

tails : {X : Type 0} {x y : X} {xs ys : List X} → x ∷ xs ≡ y ∷ ys → xs ≡ ys
tails e = cc

no_more : {X : Type 0} {x : X} {xs : List X} → x ∷ xs ≡ [] → ⊥
no_more e = let z : ◌≡◌ {A = ℕ} 0 1 = cc in omega arith

-- station k has the kind and the count listed for it, and its generators follow those of the stations before
pub opened_at : (ss : List Station) (n : ℕ) (kinds counts : List ℕ) → map view_of ss ≡ opened_stations n kinds counts
    → (k : ℕ) (d : Station) → k < length ss → view_of (get_or ss k d) ≡ station_opened (n + sum (take k counts)) (get_or kinds k 0) (get_or counts k 0)
opened_at [] n kinds counts e k d h = absurd (omega arith)
opened_at (s ∷ ss) n [] counts e k d h = absurd (no_more e)
opened_at (s ∷ ss) n (kind ∷ kinds) [] e k d h = absurd (no_more e)
opened_at (s ∷ ss) n (kind ∷ kinds) (count ∷ counts) e zero d h = heads e ∙ ap (λ i. station_opened i kind count) (omega arith)
opened_at (s ∷ ss) n (kind ∷ kinds) (count ∷ counts) e (suc k) d h =
    opened_at ss (n + count) kinds counts (tails e) k d (omega arith)
    ∙ ap (λ i. station_opened i (get_or kinds k 0) (get_or counts k 0)) (omega (arith, sum_by-cons (λ (x : ℕ). x) count (take k counts)))

-- what holds of a station just opened holds of each
pub each_opened : (P : Station → Type 0) → ((s : Station) (n kind count : ℕ) → view_of s ≡ station_opened n kind count → P s)
    → (ss : List Station) (n : ℕ) (kinds counts : List ℕ) → map view_of ss ≡ opened_stations n kinds counts → All P ss
each_opened P f ss n kinds counts e k d h = f _ _ _ _ (opened_at ss n kinds counts e k d h)

-- as many stations as kinds, with the generators counted, and nothing drawn or paid
pub record Sums (ss : List Station) (kinds counts : List ℕ) : Type 0 where
  pub stations : length ss ≡ length kinds
  pub generators : generators_of ss ≡ generators_in counts
  pub even : nets ss ≡ pos 0

pub sums_opened : (ss : List Station) (n : ℕ) (kinds counts : List ℕ) → length counts ≡ length kinds → map view_of ss ≡ opened_stations n kinds counts → Sums ss kinds counts
unfolding generators_in
sums_opened [] n [] [] same e = record { stations = refl; generators = refl; even = refl }
sums_opened [] n [] (count ∷ counts) same e = absurd (omega arith)
sums_opened [] n (kind ∷ kinds) [] same e = absurd (omega arith)
sums_opened [] n (kind ∷ kinds) (count ∷ counts) same e = absurd (no_more (sym e))
sums_opened (s ∷ ss) n [] counts same e = absurd (no_more e)
sums_opened (s ∷ ss) n (kind ∷ kinds) [] same e = absurd (no_more e)
sums_opened (s ∷ ss) n (kind ∷ kinds) (count ∷ counts) same e =
    let rest = sums_opened ss (n + count) kinds counts (omega arith) (tails e) in
    let has : s.plant.members.count ≡ count = ap (λ (v : View). v.count) (heads e) in
    let net : s.balance.net ≡ pos 0 = ap (λ (v : View). v.net) (heads e) in
    record {
      stations = omega (arith, rest.stations);
      generators = omega (arith, has, rest.generators, sum_by-cons (λ (x : Station). x.plant.members.count) s ss, sum_by-cons (λ (x : ℕ). x) count counts);
      even = omega (arith, ints, net, rest.even);
    }

laid_from : (ss : List Station) (n : ℕ) (kinds counts : List ℕ) → map view_of ss ≡ opened_stations n kinds counts
    → (k : ℕ) (d : Station) → k < length ss → (get_or ss k d).plant.members.first ≡ n + generators_of (take k ss)
laid_from [] n kinds counts e k d h = absurd (omega arith)
laid_from (s ∷ ss) n [] counts e k d h = absurd (no_more e)
laid_from (s ∷ ss) n (kind ∷ kinds) [] e k d h = absurd (no_more e)
laid_from (s ∷ ss) n (kind ∷ kinds) (count ∷ counts) e zero d h =
    let begins : s.plant.members.first ≡ n = ap (λ (v : View). v.first) (heads e) in
    omega (arith, begins)
laid_from (s ∷ ss) n (kind ∷ kinds) (count ∷ counts) e (suc k) d h =
    let has : s.plant.members.count ≡ count = ap (λ (v : View). v.count) (heads e) in
    omega (arith, has, laid_from ss (n + count) kinds counts (tails e) k d (omega arith), sum_by-cons (λ (x : Station). x.plant.members.count) s (take k ss))

pub laid_opened : (ss : List Station) (kinds counts : List ℕ) → map view_of ss ≡ opened_stations 0 kinds counts → Laid ss
laid_opened ss kinds counts e k d h = omega (arith, laid_from ss 0 kinds counts e k d h)

-- a station just opened is sound
pub sound_opened : (s : Station) (n kind count : ℕ) → view_of s ≡ station_opened n kind count → IsSound s
sound_opened s n kind count e =
    let charges : s.balance.charges ≡ pos 0 = ap (λ (v : View). v.charges) e in
    let net : s.balance.net ≡ pos 0 = ap (λ (v : View). v.net) e in
    let filed : s.stage.filed.bits ≡ 0 = ap (λ (v : View). v.filed) e in
    let slots : s.stage.slots.bits ≡ 0 = ap (λ (v : View). v.slots) e in
    record {
      light = omega (arith, ints, charges);
      covered = omega (arith, ints, net);
      in_day = omega (arith, filed);
      in_slots = omega (arith, slots, pow_pos (slots_of s.plant.kind));
      unposted = λ off. charges;
    }
