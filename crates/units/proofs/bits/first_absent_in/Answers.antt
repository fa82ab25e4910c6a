use Rattle.std.proofs.Common.{◌^◌, ◌<◌, ◌∙◌, rules}
use Rattle.units.proofs.Sets.{trailing_absent}
use Rattle.units.proofs.bits.first_absent_in.Goals as goal

pub returns : goal.returns
returns c =
    let low : c.args.bits < 2 ^ 128 = search rules in
    c.trailing_ones.ensures ∙ trailing_absent c.args.bits low
