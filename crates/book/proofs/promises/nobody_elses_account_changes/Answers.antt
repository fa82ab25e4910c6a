use Rattle.book.proofs.Kept.{nobody_elses_account}
use Rattle.book.proofs.promises.nobody_elses_account_changes.Goals as goal

pub returns : goal.returns
returns c = nobody_elses_account
