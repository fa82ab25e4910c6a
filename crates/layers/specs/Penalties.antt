-- A penalty for one station that declared a wrong capacity.
use Rattle.std.specs.Prelude.{ℕ, ◌*◌, ◌≤◌, ◌&&◌, Bool, List, filter_map, find, ℤ, pos, negsuc, Some, None, Option, IfSome, is_none, if◌then◌else◌, ◌==◌, nat_lt, slice_index_or}
use Rattle.tariff.specs.Ranges.{in_range}
use Rattle.tariff.specs.declared.query.Query.{Query}
use Rattle.units.specs.declared.fault.Fault.TheVariants.{BadPenalty}
use Rattle.units.specs.declared.fault.Fault.{Fault}
use Rattle.units.specs.declared.limits.TheConstants.{HIGHEST_CEILING, HIGHEST_UNDER_PENALTY, PENALTY_FACTOR, STATION_KW}

-- The first capacity that no station has, in block order.
abbrev pub first_one_above : List (Option ℕ) → Option ℕ
first_one_above due = find (λ kw. nat_lt STATION_KW kw) (filter_map (λ capacity. capacity) due)

abbrev pub bad_capacity : Option ℕ → Option Fault
bad_capacity None = None
bad_capacity (Some kw) = Some (BadPenalty kw)

-- The first reason against a penalty over a tariff with this ceiling.
abbrev pub penalty_refused : ℕ → List (Option ℕ) → Option Fault
penalty_refused ceiling due =
    if nat_lt HIGHEST_UNDER_PENALTY ceiling then Some (BadPenalty ceiling) else bad_capacity (first_one_above due)

-- Whether there is no reason against the penalty.
abbrev pub applies : ℕ → List (Option ℕ) → Bool
applies ceiling due = is_none (penalty_refused ceiling due)

-- The same in the subject's words. Each capacity is one that a station can have.
pub record AreCapacities (due : List (Option ℕ)) : Type 0 where
  pub each : (block : ℕ) → IfSome (slice_index_or due block None) (λ kw. kw ≤ STATION_KW)

-- A penalty may stand over a tariff with this ceiling: its own is still one.
pub record MayStand (ceiling : ℕ) (due : List (Option ℕ)) : Type 0 where
  pub low : PENALTY_FACTOR * ceiling ≤ HIGHEST_CEILING
  pub capacities : AreCapacities due

-- What is payable, multiplied, and nothing of what is receivable.
abbrev pub multiplied : ℤ → ℤ
multiplied (pos n) = pos (PENALTY_FACTOR * n)
multiplied (negsuc n) = pos 0

-- The same question at another capacity.
abbrev pub at_capacity : ℕ → Query → Query
at_capacity kw q = record q { capacity = kw }

-- The capacity that `station` should have declared in the block, if it declared another.
abbrev pub due_capacity : ℕ → List (Option ℕ) → Query → Option ℕ
due_capacity station due q = if q.station == station then slice_index_or due q.block None else None

-- Where another capacity was due, the charge at that capacity, multiplied.
abbrev pub corrected : Option ℕ → (Query → ℤ) → Query → ℤ
corrected None below q = below q
corrected (Some kw) below q = multiplied (below (at_capacity kw q))

-- The charge of a penalty over a tariff with this ceiling and these charges: all from below where there is a
-- reason against it, and for each query outside the range.
abbrev pub penal : ℕ → ℕ → List (Option ℕ) → (Query → ℤ) → Query → ℤ
penal ceiling station due below q =
    if in_range q && applies ceiling due then corrected (due_capacity station due q) below q else below q

-- Its ceiling.
abbrev pub raised : ℕ → List (Option ℕ) → ℕ
raised ceiling due = if applies ceiling due then PENALTY_FACTOR * ceiling else ceiling
