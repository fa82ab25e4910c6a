use Rattle.law.proofs.Lawful.{lawful}
use Rattle.law.proofs.runs.every_run_keeps_the_law.Goals as goal

pub returns : goal.returns
returns g c = lawful g.met.K.Key.alive c.args.book.now c.args.pages.now
