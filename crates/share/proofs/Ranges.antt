-- The loads of a station's generators, and their totals, are in range.
use Rattle.std.proofs.Common.{ℕ, ◌*◌, ◌<◌, ◌≤◌, List, [], ◌∷◌, length, sum, arith}
use Rattle.share.specs.Keys.{IsBuilt, IsLoadInRange, NeverAboveLargest, NeverVanish, totals, weights}
use Rattle.share.specs.Loads.{loads}
use Rattle.share.specs.declared.generator.Generator.{Generator}
use Rattle.share.specs.declared.load.Load.{Load}
use Rattle.std.proofs.lemmas.List.{length-map}
use Rattle.std.proofs.lemmas.List.Sums.{sum_by-cons, sum-map}
use Rattle.std.specs.List.{AllByRecursion}
use Rattle.std.specs.Prelude.{sum_by}
use Rattle.units.specs.declared.limits.TheConstants.{GENERATORS, GENERATOR_KW, STATION_KW}

-- what one generator can have
pub record IsOfGenerator (l : Load) : Type 0 where
  pub some : 0 < l.installed
  pub actual : l.actual ≤ GENERATOR_KW
  pub capacity : l.capacity ≤ GENERATOR_KW
  pub installed : l.installed ≤ GENERATOR_KW

one_in_range : (l : Load) → IsOfGenerator l → IsLoadInRange l
one_in_range l own = record { actual = omega arith; capacity = omega arith; installed = omega arith }

each_in_range : (ls : List Load) → AllByRecursion IsOfGenerator ls → AllByRecursion IsBuilt ls
each_in_range [] own = tt
each_in_range (l ∷ ls) own = (record { some = own.0.some; range = one_in_range l own.0 }, each_in_range ls own.1)

sum_small : (f : Load → ℕ) → ((l : Load) → IsOfGenerator l → f l ≤ GENERATOR_KW) → (ls : List Load) → AllByRecursion IsOfGenerator ls → sum_by f ls ≤ GENERATOR_KW * length ls
sum_small f small [] own = omega arith
sum_small f small (l ∷ ls) own = rw sum_by-cons (omega (arith, small l own.0, sum_small f small ls own.1))

pub totals_in_range : (ls : List Load) → length ls ≤ GENERATORS → AllByRecursion IsOfGenerator ls → IsLoadInRange (totals ls)
totals_in_range ls few own = record {
  actual = omega (arith, sum_small (λ l. l.actual) (λ l o. o.actual) ls own);
  capacity = omega (arith, sum_small (λ l. l.capacity) (λ l o. o.capacity) ls own);
  installed = omega (arith, sum_small (λ l. l.installed) (λ l o. o.installed) ls own);
}

-- a key's weights for the generators of a station do not all vanish
pub weights_alive : (w : Load → Load → ℕ) → NeverVanish w → (ls : List Load) → 0 < length ls → length ls ≤ GENERATORS → AllByRecursion IsOfGenerator ls → 0 < sum (weights w ls)
weights_alive w alive ls some few own = alive ls some (each_in_range ls own) (totals_in_range ls few own)

-- and they add up to what a station can have at most
pub weights_small : (w : Load → Load → ℕ) → NeverAboveLargest w → (ls : List Load) → length ls ≤ GENERATORS → AllByRecursion IsOfGenerator ls → sum (weights w ls) ≤ STATION_KW
weights_small w bounded ls few own =
    let all = totals_in_range ls few own in
    let one = λ (l : Load) (o : IsOfGenerator l). bounded l (totals ls) (one_in_range l o) all in
    let small : (l : Load) → IsOfGenerator l → w l (totals ls) ≤ GENERATOR_KW = λ l o. omega (arith, one l o) in
    rw sum-map (omega (arith, sum_small (λ l. w l (totals ls)) small ls own))

of_generator : (g : Generator) → IsOfGenerator g.load
of_generator g = record { some = omega arith; actual = omega arith; capacity = omega arith; installed = omega arith }

pub of_generators : (gs : List Generator) → AllByRecursion IsOfGenerator (loads gs)
of_generators [] = tt
of_generators (g ∷ gs) = (of_generator g, of_generators gs)

pub station_in_range : (gs : List Generator) → length gs ≤ GENERATORS → IsLoadInRange (totals (loads gs))
station_in_range gs few = totals_in_range (loads gs) (rw length-map few) (of_generators gs)
