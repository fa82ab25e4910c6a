-- The numbers of a station's generators.
use Rattle.std.specs.Prelude.{ℕ, ◌<◌, ◌≤◌}
use Rattle.units.specs.declared.limits.TheConstants.{GENERATORS, MOST_BEFORE}

-- some generators from the number `first` on, as many as a station and a book may have
abbrev pub Numbered : ℕ → ℕ → Type 0
Numbered first count = (first ≤ MOST_BEFORE) × (0 < count) × (count ≤ GENERATORS)
