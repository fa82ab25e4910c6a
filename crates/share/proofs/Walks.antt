-- A walk over a station's generators.
use Rattle.std.proofs.Common.{◌≡◌, ℕ, ◌<◌, ◌≤◌, List, length, map, take, take_all, sum, sym, ap, ◌∙◌, arith}
use Rattle.share.specs.Loads.{loads}
use Rattle.share.proofs.Ranges.{of_generators, weights_alive, weights_small}
use Rattle.share.specs.Keys.{NeverAboveLargest, NeverVanish, totals, weights}
use Rattle.share.specs.declared.generator.Generator.{Generator}
use Rattle.share.specs.declared.load.Load.{Load}
use Rattle.std.proofs.lemmas.List.{length-map}
use Rattle.std.proofs.lemmas.Simd.{map-map}
use Rattle.units.specs.declared.limits.TheConstants.{GENERATORS, STATION_KW}

-- what a walk has pushed once it is past the last generator
pub weights_all : (w : Load → Load → ℕ) (gs walked : List Generator) (i : ℕ) (station : Load) (each : List ℕ) → walked ≡ gs → length walked ≤ i → station ≡ totals (loads gs)
    → each ≡ map (λ g. w g.load station) (take i gs) → each ≡ weights w (loads gs)
weights_all w gs walked i station each same end all is =
    is ∙ ap (map (λ g. w g.load station)) (take_all i gs (rw same at end)) ∙ rw all (sym (map-map (λ l. w l (totals (loads gs))) (λ g. g.load) gs))

-- the weights that a walk has pushed do not all vanish
pub some_weight : (w : Load → Load → ℕ) → NeverVanish w → (gs : List Generator) → 0 < length gs → length gs ≤ GENERATORS
    → (each : List ℕ) (total : ℕ) → total ≡ sum each → each ≡ weights w (loads gs) → 0 < total
some_weight w alive gs some few each total is all =
    omega (arith, is, ap sum all, weights_alive w alive (loads gs) (rw length-map some) (rw length-map few) (of_generators gs))

-- they add up to what a station can have at most
pub small_weights : (w : Load → Load → ℕ) → NeverAboveLargest w → (gs : List Generator) → length gs ≤ GENERATORS
    → (each : List ℕ) → each ≡ weights w (loads gs) → sum each ≤ STATION_KW
small_weights w bounded gs few each all =
    omega (arith, ap sum all, weights_small w bounded (loads gs) (rw length-map few) (of_generators gs))
