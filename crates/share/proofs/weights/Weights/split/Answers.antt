use Rattle.std.proofs.Common.{◌≤◌, length, ap, ◌∙◌, arith, take_all, w64, to_z, of_z}
use Rattle.share.proofs.Fairness.{fair, length_shares}
use Rattle.share.proofs.Splits.{front_more, is_weight, split_more, split_share}
use Rattle.share.proofs.weights.Weights.split.Goals as goal
use Rattle.share.specs.Held.{held}
use Rattle.share.specs.Shares.{shares}
use Rattle.std.proofs.lemmas.Int.{to_z-of_z}

pub loop-weight-preserved : goal.loop-weight-preserved
loop-weight-preserved c =
    let ws = held c.args.self.now in
    let i = c.loop-weight.weight-index in
    let w = is_weight ws _ i c.each-weight-items.ensures.value c.loop-weight-test.true in
    let at = c.loop-weight.invariant.at in
    let next = c.share_of.ensures in
    let m = to_z w64 (of_z w64 c.args.amount) in
    let share = to_z-of_z w64 c.share_of.result (record { sfits = c.share_of.type_inv }) ∙ next.share ∙ split_share m ws i _ c.loop-weight.splitter at w.here w.read in
    record {
      at = split_more m ws i _ c.loop-weight.splitter at w.here w.read _ next.amount next.total next.sum;
      front = front_more m ws i c.loop-weight.shares.items _ _ w.here c.loop-weight.invariant.front share c.push.ensures.items;
    }

pub returns-clause-shares : goal.returns-clause-shares
returns-clause-shares c =
    let ws = held c.args.self.now in
    let amount = to_z-of_z w64 c.args.amount c.ranges.amount in
    let end : length ws ≤ c.loop-weight.weight-index = rw c.each-weight-items.ensures.value at c.loop-weight-test.false in
    c.loop-weight.invariant.front ∙ take_all _ _ (rw length_shares end) ∙ ap (λ m. shares m ws) amount

pub returns-clause-fair : goal.returns-clause-fair
returns-clause-fair c = fair c.args.amount _ (omega arith)
