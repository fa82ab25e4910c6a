-- What is left of a line stands at its end.
use Rattle.std.specs.Prelude.{◌≡◌, ℕ, ◌-◌, List, ◌++◌, length, take}

abbrev pub Ends : (line rest : List ℕ) → Type 0
Ends line rest = take (length line - length rest) line ++ rest ≡ line
