use Rattle.book.proofs.pages.open_accounts.Given as goal
use Rattle.book.specs.Lists.{spliced}
use Rattle.posting.specs.Amounts.{opened_account}
use Rattle.std.proofs.Common.{◌≡◌, map, take}

abbrev pub invariant-loop-g : goal.invariant-loop-g
invariant-loop-g l = l.page ≡ spliced 0 (map opened_account (take l.g l.installed)) l.initial.page
