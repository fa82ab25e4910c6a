use Rattle.std.proofs.Common.{rules}
use Rattle.book.proofs.OpeningChecks.{all_installable}
use Rattle.book.proofs.opening.installed_range.Goals as goal

pub returns-in-None : goal.returns-in-None
returns-in-None c = search (rules, all_installable)
