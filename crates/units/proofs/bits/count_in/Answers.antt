use Rattle.std.proofs.Common.{◌^◌, ◌<◌, rules}
use Rattle.units.proofs.Sets.{count_ones_count}
use Rattle.units.proofs.bits.count_in.Goals as goal

pub returns : goal.returns
returns c =
    let low : c.args.bits < 2 ^ 128 = search rules in
    count_ones_count c.args.bits low
