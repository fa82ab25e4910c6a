-- The weights that a value of `Weights` holds.
use Rattle.std.specs.Prelude.{ℕ, List}
use Rattle.share.specs.declared.weights.Weights.{Weights}

abbrev pub held : Weights → List ℕ
held w = w.each.now
