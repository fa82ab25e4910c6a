use Rattle.posting.proofs.day.post_sums.Given as goal
use Rattle.posting.specs.Days.{changed, with_sums}
use Rattle.std.proofs.Common.{◌≡◌}

abbrev pub invariant-loop-k : goal.invariant-loop-k
invariant-loop-k l = l.accounts ≡ changed l.members.first l.k (with_sums l.sums) l.initial.accounts
