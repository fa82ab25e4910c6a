use Rattle.std.proofs.Common.{length}
use Rattle.lines.proofs.arguments.+misfit.Given as goal

abbrev pub decreases-misfit : goal.decreases-misfit
decreases-misfit l = length l.args.now
