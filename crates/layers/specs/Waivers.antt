-- A waiver for the blocks of a grid disturbance.
use Rattle.std.specs.Prelude.{ℕ, ◌&&◌, ℤ, pos, if◌then◌else◌}
use Rattle.tariff.specs.Ranges.{in_range}
use Rattle.tariff.specs.declared.query.Query.{Query}
use Rattle.units.specs.Bits.{has}

-- Nothing is charged in a disturbed block; all else, and each query outside the range, comes from below.
abbrev pub waived : ℕ → (Query → ℤ) → Query → ℤ
waived disturbed below q = if in_range q && has disturbed q.block then pos 0 else below q
