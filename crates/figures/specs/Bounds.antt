-- Bounds that follow from the limits, in numbers.
use Rattle.std.specs.Prelude.{◌≡◌}
use Rattle.units.specs.declared.limits.TheConstants.{BLOCK_PAISE, DAY_PAISE, MOST_BEFORE}

pub record BoundsInNumbers : Type 0 where
  -- generators of a book before those of a station
  pub before : MOST_BEFORE ≡ 480
  -- in paise, either way
  pub block : BLOCK_PAISE ≡ 64000000000
  pub day : DAY_PAISE ≡ 6144000000000
