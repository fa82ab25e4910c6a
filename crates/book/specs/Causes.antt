-- The causes for which a call's own numbers refuse it.
use Rattle.std.specs.Prelude.{◌≡◌, ℕ, ◌+◌, ◌-◌, ◌≤◌, not, ◌||◌, List, [], ◌∷◌, length, Some, None, Option, ◌==◌, nat_le, nat_lt, position}
use Rattle.units.specs.Refusals.{when}
use Rattle.book.specs.Stations.{slot_of}
use Rattle.book.specs.declared.station.Station.{Station}
use Rattle.book.specs.declared.station.stage.Stage.{Stage}
use Rattle.std.specs.Option.{option_map, unwrap_or}
use Rattle.units.specs.Bits.{count_of, last_of}
use Rattle.units.specs.declared.fault.Fault.{Fault}
use Rattle.units.specs.declared.fault.Fault.TheVariants.{BadAmount, BadBlocks, BadNotice, HighValue, RevisionNumber, UsedSlot, ValueCount}
use Rattle.units.specs.declared.limits.TheConstants.{BLOCKS, LAST_NOTICE, MOST_AMOUNT, REVISION_LEAD, STATION_KW}
use Rattle.units.specs.declared.station.Kind.{Kind}

-- a block that the day doesn't have, or the first after the last
abbrev pub bad_blocks : ℕ → ℕ → Option Fault
bad_blocks from to = when (nat_le BLOCKS to || nat_lt to from) (BadBlocks from to)

-- the value at a position is above its limit
abbrev pub high_value : ℕ → ℕ → ℕ → Option Fault
high_value position limit value = when (nat_lt limit value) (HighValue position limit)

-- the first of the values that is above the limit
abbrev pub high_values : ℕ → List ℕ → Option Fault
high_values limit vs = option_map (λ i. HighValue i limit) (position (nat_lt limit) vs)

-- a notice that the station may not give
abbrev pub bad_notice : ℕ → Option ℕ → Option Fault
bad_notice n None = Some (BadNotice n)
bad_notice n (Some slot) = None

-- not as many values as the revision has blocks
abbrev pub value_count : ℕ → ℕ → Option Fault
value_count given needed = when (not (given == needed)) (ValueCount given needed)

-- not the number after those used
abbrev pub wrong_number : ℕ → ℕ → Option Fault
wrong_number given used = when (not (given == used + 1)) (RevisionNumber given (used + 1))

-- a slot that is not later than the last one used
abbrev pub used_slot : ℕ → Option ℕ → Option Fault
used_slot slot None = None
used_slot slot (Some last) = when (nat_le slot last) (UsedSlot slot last)

-- the causes for which revision k in a slot is refused by those that were made before
abbrev pub order_causes : ℕ → ℕ → Stage → List (Option Fault)
order_causes k slot s = wrong_number k (count_of s.slots.bits) ∷ used_slot slot (last_of s.slots.bits) ∷ []

-- the causes for which revision k of station x, with notice in block n, is refused for its own numbers
abbrev pub revision_causes : ℕ → ℕ → List ℕ → Station → List (Option Fault)
revision_causes k n vs x =
    let slot = slot_of x.plant.kind n in
    bad_notice n slot
    ∷ value_count (length vs) (BLOCKS - REVISION_LEAD - n)
    ∷ high_values STATION_KW vs
    ∷ order_causes k (unwrap_or slot 0) x.stage

-- An accepted revision with notice in block n, of a station of this kind: its slot, and the values that it schedules.
pub record IsRevision (kind : Kind) (n : ℕ) (vs : List ℕ) (slot : ℕ) (schedule : List ℕ) : Type 0 where
  pub slotted : slot_of kind n ≡ Some slot
  pub low : n ≤ LAST_NOTICE
  pub counted : length vs ≡ BLOCKS - REVISION_LEAD - n
  pub all : schedule ≡ vs

-- an amount of nothing, or above the most of one call
abbrev pub bad_amount : ℕ → ℕ → Option Fault
bad_amount t x = when (x == 0 || nat_lt MOST_AMOUNT x) (BadAmount t x)
