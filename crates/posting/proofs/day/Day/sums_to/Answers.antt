use Rattle.std.proofs.Common.{ℕ, sym, refl, ap, ◌∙◌, arith}
use Rattle.posting.proofs.Blocks.{same_amounts, same_shares}
use Rattle.posting.proofs.Sums.{charge_more, none_yet, split_within, shares_more, shares_none, sum_to_none, sums_whole, within_none}
use Rattle.posting.proofs.day.Day.sums_to.Goals as goal
use Rattle.posting.specs.Days.{the_day}

pub loop-block-init : goal.loop-block-init
loop-block-init g c =
    let none = λ (k : ℕ). none_yet 32 k c.default-each.result (same_amounts c.default-each.ensures.0 c.default-each.ensures.1) in record {
      charges_are = sym (sum_to_none _);
      most = omega arith;
      shares_are = λ k. none k ∙ shares_none _ _;
      within = λ k. within_none 0 _ (none k);
    }

pub loop-block-preserved : goal.loop-block-preserved
loop-block-preserved g c =
    let b = c.weighed.ensures in
    let inv = c.loop-block.invariant in
    let figures = c.weighed.result.0 in
    let charges = charge_more _ c.loop-block.block _ _ (omega arith) inv.charges_are inv.most (ap (λ f. f.money) b.figures) b.sized.0 in
    let read = λ (k : ℕ). same_shares k b.figures b.weights in
    let small = λ (k : ℕ). split_within figures _ k (b.sized.0, omega (arith, b.sized.1)) in
    let more = λ (k : ℕ). shares_more _ _ c.loop-block.block _ _ _ (inv.shares_are k) (inv.within k) (read k) (small k) (c.add_shares.ensures k) in
    record {
      charges_are = charges.0;
      most = charges.1;
      shares_are = λ k. (more k).0;
      within = λ k. (more k).1;
    }

pub returns-clause-sums : goal.returns-clause-sums
returns-clause-sums g c =
    let inv = c.loop-block.invariant in
    sums_whole (the_day g.T.Tariff g.K.Key c.args.self.now) g.met.K.Key.alive c.loop-block.block c.args.blocks (omega arith) _ refl inv.charges_are inv.shares_are
