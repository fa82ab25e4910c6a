use Rattle.answering.proofs.Days.{lawful_day}
use Rattle.answering.proofs.statements.statement.Goals as goal

pub returns-clause-lawful : goal.returns-clause-lawful
returns-clause-lawful g c = lawful_day g.met.K.Key.alive c.args.book.now c.args.pages.now
