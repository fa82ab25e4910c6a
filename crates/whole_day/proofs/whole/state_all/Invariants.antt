use Rattle.book.specs.States.{state}
use Rattle.whole_day.proofs.Wholes.{StatedBelow}
use Rattle.whole_day.proofs.whole.state_all.Given as goal

abbrev pub invariant-loop-t : goal.invariant-loop-t
invariant-loop-t g l = StatedBelow (g.T.Tariff.code_of l.book.tariff) (state l.book l.pages) l.t (g.W.Write.contents l.initial.writer) (g.W.Write.contents l.writer)
