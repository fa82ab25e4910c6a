use Rattle.whole_day.proofs.taking.read_some.Given as goal
use Rattle.std.specs.Io.KnownBytes.{Keeps}

abbrev pub invariant-loop : goal.invariant-loop
invariant-loop g l = Keeps (g.R.Read.remaining l.initial.reader) (g.R.Read.remaining l.reader)
