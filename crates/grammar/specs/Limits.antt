-- How long a line may be, and each of its parts, in numbers.
use Rattle.std.specs.Prelude.{◌≡◌}
use Rattle.grammar.specs.declared.line.TheConstants.{LONGEST_LINE, MOST_DIGITS, MOST_LETTERS, MOST_NUMBERS}

pub record LimitsOfLines : Type 0 where
  -- in bytes
  pub line : LONGEST_LINE ≡ 1024
  pub letters : MOST_LETTERS ≡ 8
  pub digits : MOST_DIGITS ≡ 13
  pub numbers : MOST_NUMBERS ≡ 96
