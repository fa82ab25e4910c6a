-- Where a block stands on a page, and what a write to a part of a page leaves.
use Rattle.std.specs.Prelude.{ℕ, ◌+◌, ◌*◌, List, ◌++◌, length, take, drop}
use Rattle.units.specs.declared.limits.TheConstants.{BLOCKS}

-- where the block b of the station or generator with this number stands on a page
abbrev pub entry : ℕ → ℕ → ℕ
entry number b = BLOCKS * number + b

-- the page with the values vs from the place i on
abbrev pub spliced : {X : Type 0} → ℕ → List X → List X → List X
spliced i vs p = take i p ++ (vs ++ drop (i + length vs) p)
