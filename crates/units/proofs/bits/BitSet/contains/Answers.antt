use Rattle.std.proofs.Common.{◌^◌, ◌<◌, sym, ◌∙◌, arith, rules}
use Rattle.std.proofs.lemmas.Bool.{le-ltb}
use Rattle.units.proofs.Sets.{has_past}
use Rattle.units.proofs.bits.BitSet.contains.Goals as goal

pub returns-else-n-lt-SIZE : goal.returns-else-n-lt-SIZE
returns-else-n-lt-SIZE c =
    let low : c.args.self.now.bits < 2 ^ 128 = search rules in
    le-ltb c.args.n 128 (omega arith) ∙ sym (has_past c.args.self.now.bits 128 c.args.n low (omega arith))
