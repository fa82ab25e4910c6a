-- The weights of a station's generators, and the two keys.
use Rattle.std.specs.Prelude.{ℕ, ◌<◌, ◌≤◌, max, cond, List, length, map, sum_by, sum, nat_lt}
use Rattle.share.specs.declared.load.Load.{Load}
use Rattle.std.specs.List.{AllByRecursion}
use Rattle.units.specs.declared.limits.TheConstants.{STATION_KW}

abbrev pub largest : Load → ℕ
largest l = max l.actual (max l.capacity l.installed)

-- a station's totals
abbrev pub totals : List Load → Load
totals ls = record {
  actual = sum_by (λ l. l.actual) ls;
  capacity = sum_by (λ l. l.capacity) ls;
  installed = sum_by (λ l. l.installed) ls;
}

-- the weights by a key w, which takes a generator's own numbers and the totals
abbrev pub weights : (Load → Load → ℕ) → List Load → List ℕ
weights w ls = map (λ l. w l (totals ls)) ls

-- power that a generator or a station can have: each number is at most STATION_KW
pub record IsLoadInRange (l : Load) : Type 0 where
  pub actual : l.actual ≤ STATION_KW
  pub capacity : l.capacity ≤ STATION_KW
  pub installed : l.installed ≤ STATION_KW

-- such power of a generator that has some installed
pub record IsBuilt (l : Load) : Type 0 where
  pub some : 0 < l.installed
  pub range : IsLoadInRange l

-- The weight of a generator by w is at most the largest of its own numbers, where these and the
-- totals are in range.
abbrev pub NeverAboveLargest : (Load → Load → ℕ) → Type 0
NeverAboveLargest w =
    (own station : Load) → IsLoadInRange own → IsLoadInRange station → w own station ≤ largest own

-- Over one generator or more, each with some power installed, the weights by w do not all vanish,
-- where the numbers of each and the totals are in range.
abbrev pub NeverVanish : (Load → Load → ℕ) → Type 0
NeverVanish w =
    (ls : List Load) → 0 < length ls → AllByRecursion IsBuilt ls → IsLoadInRange (totals ls)
    → 0 < sum (weights w ls)

abbrev pub by_capacity : Load → Load → ℕ
by_capacity own station = cond (nat_lt 0 station.capacity) own.capacity own.installed

abbrev pub by_units : Load → Load → ℕ
by_units own station = cond (nat_lt 0 station.actual) own.actual (by_capacity own station)
