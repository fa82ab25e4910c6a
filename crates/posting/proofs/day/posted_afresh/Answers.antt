use Rattle.posting.proofs.Accounts.{afresh}
use Rattle.posting.proofs.day.posted_afresh.Goals as goal

pub returns : goal.returns
returns c = afresh
