use Rattle.std.proofs.Common.{◌≡◌, take}
use Rattle.share.proofs.Splits.{SplitTo}
use Rattle.share.proofs.weights.Weights.split.Given as goal
use Rattle.share.specs.Held.{held}
use Rattle.share.specs.Shares.{shares}

abbrev pub invariant-loop-weight : goal.invariant-loop-weight
invariant-loop-weight l = record {
  at : SplitTo l.amount (held l.self) l.weight-index l.splitter;
  front : l.shares.items ≡ take l.weight-index (shares l.amount (held l.self));
}
