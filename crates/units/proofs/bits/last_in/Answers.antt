use Rattle.std.proofs.Common.{◌^◌, ◌<◌, rules}
use Rattle.units.proofs.Sets.{leading_last}
use Rattle.units.proofs.bits.last_in.Goals as goal

pub returns : goal.returns
returns c =
    let low : c.args.bits < 2 ^ 128 = search rules in
    leading_last c.args.bits c.checked_sub.result low c.checked_sub.ensures
