use Rattle.units.proofs.Sets.{grown, has_with_span, shifted_span}
use Rattle.units.proofs.bits.BitSet.insert_range.Goals as goal
use Rattle.units.specs.Bits.{has}
use lib.Bits.{bit_or}
use Rattle.std.proofs.Common.{sym, ap, ◌∙◌, arith}

pub returns-then-to-lt-SIZE : goal.returns-then-to-lt-SIZE
returns-then-to-lt-SIZE c =
    let bits = c.args.self.now.bits in
    let from = c.args.from in
    let to = c.args.to in
    let e = ap (bit_or bits) (shifted_span from to (omega arith) (omega arith)) ∙ sym (grown bits from to (omega arith) (omega arith)) in
    record { value = e; members = λ k. ap (λ z. has z k) e ∙ has_with_span bits from to k }
