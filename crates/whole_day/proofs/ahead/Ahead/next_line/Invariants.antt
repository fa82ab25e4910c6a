use Rattle.whole_day.proofs.Inputs.{Reading}
use Rattle.whole_day.proofs.ahead.Ahead.next_line.Given as goal
use Rattle.whole_day.specs.Inputs.{left}

abbrev pub invariant-loop : goal.invariant-loop
invariant-loop g l = Reading (left g.R.Read.remaining l.initial.self l.initial.reader) (left g.R.Read.remaining l.self l.reader) (g.W.Write.contents l.initial.writer) (g.W.Write.contents l.writer) l.line.items
