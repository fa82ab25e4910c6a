use Rattle.std.proofs.Common.{◌≡◌, take}
use Rattle.answering.proofs.statements.generator_lines.Given as goal
use Rattle.answering.specs.Statements.{lines_from}

abbrev pub invariant-loop-k : goal.invariant-loop-k
invariant-loop-k l = l.lines.items ≡ lines_from l.first (take l.k l.accounts)
