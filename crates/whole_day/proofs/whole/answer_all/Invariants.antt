use Rattle.whole_day.proofs.Wholes.{SoFar}
use Rattle.whole_day.proofs.whole.answer_all.Given as goal
use Rattle.whole_day.specs.Inputs.{left}

abbrev pub invariant-loop : goal.invariant-loop
invariant-loop g l = SoFar (left g.R.Read.remaining l.initial.ahead l.initial.reader) (left g.R.Read.remaining l.ahead l.reader) l.initial.book l.initial.pages l.book l.pages (g.W.Write.contents l.initial.writer) (g.W.Write.contents l.writer)
