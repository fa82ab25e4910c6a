-- What a waiver over a penalty charges, rule by rule.
use Rattle.std.specs.Prelude.{◌≡◌, ℕ, List, ℤ, pos, Some, None, Option, IsFalse, IsTrue, slice_index_or}
use Rattle.layers.specs.Penalties.{at_capacity, multiplied}
use Rattle.tariff.specs.Ranges.{IsInRange}
use Rattle.tariff.specs.declared.query.Query.{Query}
use Rattle.units.specs.Bits.{has}

-- The charge z of a waiver for the disturbed blocks, over a penalty for the station, over the charges `below`.
pub record Layered (disturbed station : ℕ) (due : List (Option ℕ)) (below : Query → ℤ) (q : Query) (z : ℤ) : Type 0 where
  -- a query outside the range is charged as below
  pub outside : ¬ IsInRange q → z ≡ below q
  -- nothing is owed in a disturbed block
  pub waived : IsInRange q → IsTrue (has disturbed q.block) → z ≡ pos 0
  -- where the station should have declared another capacity, what is payable at that, multiplied
  pub penalised : (kw : ℕ) → IsInRange q → IsFalse (has disturbed q.block) → q.station ≡ station
      → slice_index_or due q.block None ≡ Some kw → z ≡ multiplied (below (at_capacity kw q))
  -- where no other capacity was due, and for every other station, as below
  pub declared : IsFalse (has disturbed q.block) → slice_index_or due q.block None ≡ None → z ≡ below q
  pub others : IsFalse (has disturbed q.block) → ¬ (q.station ≡ station) → z ≡ below q
