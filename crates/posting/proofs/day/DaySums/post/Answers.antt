use Rattle.posting.proofs.Accounts.{posted_by}
use Rattle.posting.proofs.Sums.{posted_day}
use Rattle.posting.proofs.day.DaySums.post.Goals as goal
use Rattle.std.proofs.Common.{◌∙◌}

pub returns : goal.returns
returns c = λ d sums. posted_day d c.args.self.now sums c.args.accounts.now _ (c.post_sums.ensures ∙ posted_by d c.args.self.now sums c.args.accounts.now)
