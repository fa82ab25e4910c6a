use Rattle.std.proofs.Common.{◌<◌, map, length, arith}
use Rattle.book.proofs.OpeningPages.{accounts_more, written_all}
use Rattle.book.proofs.pages.open_accounts.Goals as goal
use Rattle.posting.specs.Amounts.{opened_account}

pub loop-g-preserved : goal.loop-g-preserved
loop-g-preserved c =
    let kws = c.args.installed.now in
    let here : c.loop-g.g < length kws = omega arith in
    accounts_more kws c.loop-g.g here c.args.page.now c.loop-g.page c.new.result (omega arith) c.new.ensures c.loop-g.invariant

pub returns : goal.returns
returns c = written_all (map opened_account) c.args.installed.now c.loop-g.g c.args.page.now c.loop-g.page (omega arith) c.loop-g.invariant
