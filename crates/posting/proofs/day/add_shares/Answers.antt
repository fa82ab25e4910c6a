use Rattle.std.proofs.Common.{◌<◌, ◌≤◌, length, get_or, ap, ◌∙◌, arith, w64}
use Rattle.posting.proofs.Blocks.{same_amounts}
use Rattle.posting.proofs.Sums.{added_all, added_more, split_within}
use Rattle.posting.proofs.day.add_shares.Goals as goal
use Rattle.share.proofs.Fairness.{length_shares}
use Rattle.share.proofs.Splits.{split_more, split_share}
use Rattle.share.specs.Held.{held}
use Rattle.std.proofs.lemmas.Int.{to_z-of_z}

pub add_to-requires-clause-small : goal.add_to-requires-clause-small
add_to-requires-clause-small c =
    let ws = held c.args.weights.now in
    let k = c.loop-k.k in
    let same = c.each-weight-items.ensures.value in
    let here : k < length ws = rw same at c.loop-k-test.true in
    let read = ap (λ xs. get_or xs k 0) same in
    let figures = c.args.figures in
    let small = split_within figures ws k c.requires.small in
    let money = to_z-of_z w64 c.share_of.result (record { sfits = c.share_of.type_inv }) ∙ c.share_of.ensures.share ∙ split_share figures.money ws k _ c.loop-k.money c.loop-k.invariant.money here read in
    let energy = to_z-of_z w64 c.share_of-in-loop-k.result (record { sfits = c.share_of-in-loop-k.type_inv }) ∙ c.share_of-in-loop-k.ensures.share ∙ split_share figures.energy ws k _ c.loop-k.energy c.loop-k.invariant.energy here read in
    (rw money small.0, rw energy small.1)

pub loop-k-preserved : goal.loop-k-preserved
loop-k-preserved c =
    let ws = held c.args.weights.now in
    let k = c.loop-k.k in
    let same = c.each-weight-items.ensures.value in
    let here : k < length ws = rw same at c.loop-k-test.true in
    let read = ap (λ xs. get_or xs k 0) same in
    let figures = c.args.figures in
    let inv = c.loop-k.invariant in
    let next = c.share_of.ensures in
    let then = c.share_of-in-loop-k.ensures in
    let money = to_z-of_z w64 c.share_of.result (record { sfits = c.share_of.type_inv }) ∙ next.share ∙ split_share figures.money ws k _ c.loop-k.money inv.money here read in
    let energy = to_z-of_z w64 c.share_of-in-loop-k.result (record { sfits = c.share_of-in-loop-k.type_inv }) ∙ then.share ∙ split_share figures.energy ws k _ c.loop-k.energy inv.energy here read in
    record {
      money = split_more figures.money ws k _ c.loop-k.money inv.money here read _ next.amount next.total next.sum;
      energy = split_more figures.energy ws k _ c.loop-k.energy inv.energy here read _ then.amount then.total then.sum;
      added = rw c.add_to.ensures (added_more _ _ c.loop-k.sums k _ (omega (arith, c.each-weight-items.ensures.few, c.loop-k-test.true)) inv.added (same_amounts money energy));
    }

pub returns : goal.returns
returns c =
    let end : length (held c.args.weights.now) ≤ c.loop-k.k = rw c.each-weight-items.ensures.value at c.loop-k-test.false in
    added_all _ _ _ _ c.loop-k.k (rw length_shares end) (rw length_shares end) c.loop-k.invariant.added
