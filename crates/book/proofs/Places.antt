-- What a book keeps where its stations change, one of them or many.
use Rattle.std.proofs.Common.{◌≡◌, ℕ, zero, suc, ◌+◌, ◌<◌, ◌≤◌, List, [], ◌∷◌, length, get_or, take, drop, ◌++◌, set, sum_by, pos, ◌+ℤ◌, sym, refl, ap, ◌∙◌, subst, arith, length-set}
use Rattle.book.specs.Sound.{Changes, generators_of, IsReplaced, IsSound, Laid, nets, plants}
use Rattle.book.specs.declared.book.Book.{Book}
use Rattle.book.specs.declared.station.Station.{Station}
use Rattle.book.specs.declared.station.plant.Plant.{Plant}
use Rattle.std.proofs.lemmas.List.{get_or-map, length-map, take-map, take_at}
use Rattle.std.proofs.lemmas.List.Elements.{All-set}
use Rattle.share.specs.declared.key.Key as key
use Rattle.std.specs.List.{All}
use Rattle.tariff.specs.declared.tariff.Tariff as tariff
use Rattle.units.specs.declared.limits.TheConstants.{ALL_GENERATORS, MOST_CASH, STATIONS}
use Rattle.std.proofs.lemmas.Int.{ints}
use Rattle.std.proofs.lemmas.List.Sums.{sum_by-cons, sum_by_more, sum_by_more_le}

abbrev count_in : Station → ℕ
count_in s = s.plant.members.count

-- The stations ss become zs, which are the same plants.
module _ (zs ss : List Station) (same : plants zs ≡ plants ss) where
  so_many : length zs ≡ length ss
  so_many = sym (length-map zs (λ x. x.plant)) ∙ ap length same ∙ length-map ss (λ x. x.plant)

  plant_at : (k : ℕ) (d : Station) → k < length zs → (get_or zs k d).plant ≡ (get_or ss k d).plant
  plant_at k d h =
      sym (get_or-map (λ (x : Station). x.plant) zs k d d.plant h) ∙ ap (λ ps. get_or ps k d.plant) same
      ∙ get_or-map (λ (x : Station). x.plant) ss k d d.plant (omega (arith, so_many))

  -- so are the first k of them
  first_plants : (k : ℕ) → plants (take k zs) ≡ plants (take k ss)
  first_plants k = sym (take-map (λ x. x.plant) k zs) ∙ ap (take k) same ∙ take-map (λ x. x.plant) k ss

-- the generators, by the plants
counted : (ss : List Station) → generators_of ss ≡ sum_by (λ p. p.members.count) (plants ss)
counted [] = refl
counted (x ∷ ss) = omega (arith, counted ss, sum_by-cons count_in x ss, sum_by-cons (λ (p : Plant). p.members.count) x.plant (plants ss))

pub same_generators : (zs ss : List Station) → plants zs ≡ plants ss → generators_of zs ≡ generators_of ss
same_generators zs ss same = counted zs ∙ ap (sum_by (λ p. p.members.count)) same ∙ sym (counted ss)

-- what holds of a book with so many generators, of its stations and its cash
abbrev pub Holds : ℕ → List Station → ℕ → Type 0
Holds generators ss cash = record {
  few : (0 < length ss) × (length ss ≤ STATIONS);
  most : generators ≤ ALL_GENERATORS;
  all : generators_of ss ≡ generators;
  laid : Laid ss;
  low : cash ≤ MOST_CASH;
  even : nets ss +ℤ pos cash ≡ pos 0;
  sound : All IsSound ss;
}

-- it holds of the stations and the cash that a book's may become
pub holds : {T K : Type 0} {rules : tariff.Ghosts T} {weights : key.Ghosts K} (b : Book T K rules weights) {zs : List Station} {then : ℕ} → IsReplaced b.stations.items b.cash zs then → Holds b.generators zs then
holds b {zs} r =
    let ss = b.stations.items in
    let same = r.placed in
    let many = so_many zs ss same in
    record {
      few = (omega (arith, many, b.few), omega (arith, many, b.few));
      most = b.most;
      all = same_generators zs ss same ∙ b.all;
      laid = λ k d h.
          ap (λ (p : Plant). p.members.first) (plant_at zs ss same k d h) ∙ b.laid k d (omega (arith, many))
          ∙ sym (same_generators (take k zs) (take k ss) (first_plants zs ss same k));
      low = r.low;
      even = r.even ∙ b.even;
      sound = r.sound;
    }

-- one station alone

pub plants_set : (ss : List Station) (t : ℕ) (x : Station) → x.plant ≡ (get_or ss t x).plant → plants (set ss t x) ≡ plants ss
plants_set [] t x same = refl
plants_set (y ∷ ss) zero x same = ap (λ (p : Plant). p ∷ plants ss) same
plants_set (y ∷ ss) (suc t) x same = ap (λ ps. y.plant ∷ ps) (plants_set ss t x same)

nets_set : (ss : List Station) (t : ℕ) (x : Station) → t < length ss → nets (set ss t x) +ℤ (get_or ss t x).balance.net ≡ nets ss +ℤ x.balance.net
nets_set [] t x h = absurd (omega arith)
nets_set (y ∷ ss) zero x h = omega (arith, ints)
nets_set (y ∷ ss) (suc t) x h = omega (arith, ints, nets_set ss t x (omega arith))

replaced : {ss : List Station} {t cash : ℕ} {x : Station} {then : ℕ} → Changes ss t cash x then → All IsSound ss → IsReplaced ss cash (set ss t x) then
replaced {ss} {t} {cash} {x} h each =
    let even = h.even x in
    record {
      placed = plants_set ss t x (h.placed x);
      sound = All-set IsSound ss t x h.sound each;
      low = h.low;
      even = omega (arith, ints, nets_set ss t x h.within, even);
    }

-- where a station's generators end
module _ (ss : List Station) (t : ℕ) (d : Station) (h : t < length ss) (laid : Laid ss) where
  -- those of the next begin
  pub end_at : (get_or ss t d).plant.members.first + (get_or ss t d).plant.members.count ≡ generators_of (take (t + 1) ss)
  end_at = omega (arith, laid t d h, sum_by_more count_in ss t d h)

  -- and all generators do not end before
  pub end_within : (get_or ss t d).plant.members.first + (get_or ss t d).plant.members.count ≤ generators_of ss
  end_within = omega (arith, laid t d h, sum_by_more_le count_in ss t d h)

-- the slice that was lent, with one station changed, is the list with it changed
refilled : (ss lent : List Station) (t : ℕ) (s : Station) → lent ≡ ss → take (length ss) (set lent t s ++ drop (length (set lent t s)) ss) ≡ set ss t s
refilled ss lent t s e = take_at (set lent t s) _ (length ss) (length-set lent t s ∙ ap length e) ∙ ap (λ x. set x t s) e

-- so it holds of a book whose station t alone was changed
pub put_back : {T K : Type 0} {rules : tariff.Ghosts T} {weights : key.Ghosts K} (b : Book T K rules weights) (lent : List Station) (t : ℕ) (x : Station) {then : ℕ}
    → lent ≡ b.stations.items → Changes b.stations.items t b.cash x then
    → Holds b.generators (take (length b.stations.items) (set lent t x ++ drop (length (set lent t x)) b.stations.items)) then
put_back b lent t x {then} same h =
    let ss = b.stations.items in
    holds b (subst (λ (zs : List Station). IsReplaced ss b.cash zs then) (sym (refilled ss lent t x same)) (replaced h b.sound))
