-- The weights of the two keys do not all vanish.
use Rattle.std.specs.Prelude.{◌≡◌, ◌<◌, Bool, true, false, cond, List, [], ◌∷◌, length, sum_by, sum, nat_lt, refl}
use Rattle.share.specs.Keys.{IsBuilt, NeverVanish, totals, weights, by_capacity, by_units}
use Rattle.share.specs.declared.load.Load.{Load}
use Rattle.std.proofs.lemmas.List.Sums.{sum_by-cons, sum-map}
use Rattle.std.specs.List.{AllByRecursion}
use Rattle.std.proofs.Common.{ltb-true, arith}

installed_alive : (ls : List Load) → 0 < length ls → AllByRecursion (λ l. 0 < l.installed) ls → 0 < sum_by (λ l. l.installed) ls
installed_alive [] some built = omega arith
installed_alive (l ∷ ls) some built = rw sum_by-cons (omega (arith, built.0))

-- whatever the numbers, where each generator has some power installed
module _ (ls : List Load) (some : 0 < length ls) (built : AllByRecursion (λ l. 0 < l.installed) ls) where
  by_installed : 0 < sum_by (λ l. l.installed) ls
  by_installed = installed_alive ls some built

  by_capacity_lem : (b : Bool) → nat_lt 0 (totals ls).capacity ≡ b → 0 < sum_by (λ l. cond b l.capacity l.installed) ls
  by_capacity_lem true e = ltb-true 0 _ e
  by_capacity_lem false e = by_installed

  by_units_lem : (b : Bool) → nat_lt 0 (totals ls).actual ≡ b → 0 < sum_by (λ l. cond b l.actual (by_capacity l (totals ls))) ls
  by_units_lem true e = ltb-true 0 _ e
  by_units_lem false e = by_capacity_lem _ refl

  pub capacity_alive : 0 < sum (weights by_capacity ls)
  capacity_alive = rw sum-map (by_capacity_lem _ refl)

  pub units_alive : 0 < sum (weights by_units ls)
  units_alive = rw sum-map (by_units_lem _ refl)

powered : (ls : List Load) → AllByRecursion IsBuilt ls → AllByRecursion (λ l. 0 < l.installed) ls
powered [] built = tt
powered (l ∷ ls) built = (built.0.some, powered ls built.1)

-- so both keep the law
pub units_never_vanish : NeverVanish by_units
units_never_vanish ls some built whole = units_alive ls some (powered ls built)

pub capacity_never_vanishes : NeverVanish by_capacity
capacity_never_vanishes ls some built whole = capacity_alive ls some (powered ls built)
