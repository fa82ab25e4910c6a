use Rattle.std.proofs.Common.{◌≡◌, ◌≤◌, length, ap, ◌∙◌, arith, sym, take_all, w64}
use Rattle.share.proofs.Fairness.{fair, length_shares}
use Rattle.share.proofs.Splits.{front_more, is_weight, split_more, split_share}
use Rattle.share.proofs.weights.Weights.split_amounts.Goals as goal
use Rattle.share.specs.Amounts.{energies, moneys}
use Rattle.share.specs.Held.{held}
use Rattle.share.specs.Shares.{shares}
use Rattle.std.proofs.lemmas.Int.{to_z-of_z}
use Rattle.std.proofs.lemmas.List.{length-map, length-take-le, map_push}

pub push-requires : goal.push-requires
push-requires c =
    let ws = held c.args.self.now in
    let each = c.loop-weight.each.items in
    let i = c.loop-weight.weight-index in
    let w = is_weight ws _ i c.each-weight-items.ensures.value c.loop-weight-test.true in
    let m = c.args.amounts.money in
    let all : i ≤ length (shares m ws) = rw length_shares (omega (arith, w.here)) in
    let count : length each ≡ i = sym (length-map each (λ a. a.money)) ∙ ap length c.loop-weight.invariant.money ∙ length-take-le i (shares m ws) all in
    omega (arith, count, c.each-weight-items.ensures.few)

pub loop-weight-preserved : goal.loop-weight-preserved
loop-weight-preserved c =
    let ws = held c.args.self.now in
    let i = c.loop-weight.weight-index in
    let w = is_weight ws _ i c.each-weight-items.ensures.value c.loop-weight-test.true in
    let inv = c.loop-weight.invariant in
    let m = c.args.amounts.money in
    let e = c.args.amounts.energy in
    let money = c.share_of.ensures in
    let energy = c.share_of-in-loop-weight.ensures in
    let money_is = to_z-of_z w64 c.share_of.result (record { sfits = c.share_of.type_inv }) ∙ money.share ∙ split_share m ws i _ c.loop-weight.money inv.money_at w.here w.read in
    let energy_is = to_z-of_z w64 c.share_of-in-loop-weight.result (record { sfits = c.share_of-in-loop-weight.type_inv }) ∙ energy.share ∙ split_share e ws i _ c.loop-weight.energy inv.energy_at w.here w.read in
    let moneys_are = ap moneys c.push.ensures.items ∙ map_push (λ a. a.money) c.loop-weight.each.items _ in
    let energies_are = ap energies c.push.ensures.items ∙ map_push (λ a. a.energy) c.loop-weight.each.items _ in
    record {
      money_at = split_more m ws i _ c.loop-weight.money inv.money_at w.here w.read _ money.amount money.total money.sum;
      energy_at = split_more e ws i _ c.loop-weight.energy inv.energy_at w.here w.read _ energy.amount energy.total energy.sum;
      money = front_more m ws i (moneys c.loop-weight.each.items) _ _ w.here inv.money money_is moneys_are;
      energy = front_more e ws i (energies c.loop-weight.each.items) _ _ w.here inv.energy energy_is energies_are;
    }

pub returns-clause-money : goal.returns-clause-money
returns-clause-money c =
    let ws = held c.args.self.now in
    let end : length ws ≤ c.loop-weight.weight-index = rw c.each-weight-items.ensures.value at c.loop-weight-test.false in
    c.loop-weight.invariant.money ∙ take_all _ _ (rw length_shares end)

pub returns-clause-energy : goal.returns-clause-energy
returns-clause-energy c =
    let ws = held c.args.self.now in
    let end : length ws ≤ c.loop-weight.weight-index = rw c.each-weight-items.ensures.value at c.loop-weight-test.false in
    c.loop-weight.invariant.energy ∙ take_all _ _ (rw length_shares end)

pub returns-clause-fair : goal.returns-clause-fair
returns-clause-fair c = (fair c.args.amounts.money _ (omega arith), fair c.args.amounts.energy _ (omega arith))
