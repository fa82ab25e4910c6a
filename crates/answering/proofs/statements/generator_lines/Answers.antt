use Rattle.std.proofs.Common.{◌<◌, length, take, ap, ◌∙◌, arith, rules, length-take}
use Rattle.answering.proofs.Texts.{length-lines, lines_more}
use Rattle.answering.proofs.statements.generator_lines.Goals as goal
use Rattle.posting.specs.Days.{no_account}
use Rattle.units.specs.declared.limits.TheConstants.{GENERATORS}

pub push-requires : goal.push-requires
push-requires c =
    let n = ap length c.loop-k.invariant ∙ length-lines c.args.first (take c.loop-k.k c.args.accounts.now) ∙ length-take c.loop-k.k c.args.accounts.now in
    let room : length c.loop-k.lines.items < GENERATORS = omega (arith, n) in
    search rules

pub loop-k-preserved : goal.loop-k-preserved
loop-k-preserved c =
    let here : c.loop-k.k < length c.args.accounts.now = omega arith in
    let more = lines_more c.args.first c.loop-k.k c.args.accounts.now no_account here in
    let pushed = c.push.ensures.items in
    let line = c.generator_line.ensures in
    cc
