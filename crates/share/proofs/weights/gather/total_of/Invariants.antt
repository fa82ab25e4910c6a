use Rattle.std.proofs.Common.{◌≡◌, take, sum}
use Rattle.share.proofs.weights.gather.total_of.Given as goal

abbrev pub invariant-loop-weight : goal.invariant-loop-weight
invariant-loop-weight l = record {
  total_is : l.total ≡ sum (take l.weight-index l.each);
}
