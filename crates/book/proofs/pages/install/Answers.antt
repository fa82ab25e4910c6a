use Rattle.std.proofs.Common.{◌+◌, ◌-◌, ◌*◌, ◌<◌, length, get_or, arith}
use Rattle.book.proofs.OpeningPages.{installed_more, written_all}
use Rattle.book.proofs.Writes.{filled}
use Rattle.book.proofs.pages.install.Goals as goal
use Rattle.book.specs.Opening.{all_day}
use Rattle.std.specs.List.{flat_map}
use Rattle.units.specs.declared.limits.TheConstants.{BLOCKS}

pub loop-g-preserved : goal.loop-g-preserved
loop-g-preserved c =
    let kws = c.args.installed.now in
    let here : c.loop-g.g < length kws = omega arith in
    let kw = get_or kws c.loop-g.g 0 in
    let at = BLOCKS * c.loop-g.g in
    installed_more kws c.loop-g.g here c.args.page.now c.loop-g.page _ c.loop-g.invariant
    (filled at (at + BLOCKS - at) BLOCKS kw c.loop-g.page c.fill.new.self (omega arith) (omega (arith, c.requires.room)) (c.fill.ensures.after (λ y e. e)))

pub returns : goal.returns
returns c = written_all (flat_map all_day) c.args.installed.now c.loop-g.g c.args.page.now c.loop-g.page (omega arith) c.loop-g.invariant
