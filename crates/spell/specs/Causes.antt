-- Why a text is refused.
use Rattle.std.specs.Prelude.{ℕ, ◌+◌, Bool, not, List, length, Option, nat_lt, position}
use Rattle.std.specs.Option.{option_map}
use Rattle.units.specs.declared.fault.Fault.{Fault}
use Rattle.units.specs.declared.fault.Fault.TheVariants.{ShortOutput, BadArgument, LongLine}
use Rattle.units.specs.Refusals.{when}
use Rattle.grammar.specs.declared.line.TheConstants.{LONGEST_LINE}

-- a page of fewer than `least` bytes
abbrev pub short_page : ℕ → List ℕ → Option Fault
short_page least page = when (nat_lt (length page) least) (ShortOutput (length page))

-- the first argument that fails the test, by its position from 1
abbrev pub misfit : {X : Type 0} → (X → Bool) → List X → Option Fault
misfit test xs = option_map (λ n. BadArgument (n + 1)) (position (λ x. not (test x)) xs)

abbrev pub long_line : List ℕ → Option Fault
long_line line = when (nat_lt LONGEST_LINE (length line)) (LongLine (length line))
