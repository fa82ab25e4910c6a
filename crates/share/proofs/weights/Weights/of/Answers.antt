use Rattle.std.proofs.Common.{sum, sym, ap, ◌∙◌, arith}
use Rattle.share.proofs.Walks.{some_weight, small_weights, weights_all}
use Rattle.share.proofs.weights.Weights.of.Goals as goal

pub inverse_of-requires : goal.inverse_of-requires
inverse_of-requires g c =
    let w = g.K.Key.weighs in
    let gs = c.args.generators.now.each.now in
    let loop = c.loop-generator in
    let all = weights_all w gs _ _ _ _ c.each-generator-items.ensures c.loop-generator-test.false c.load-station.ensures loop.invariant.front in
    some_weight w g.met.K.Key.alive gs (omega arith) (omega arith) _ _ loop.invariant.total_is all

pub invariant_of-result-clause-whole : goal.invariant_of-result-clause-whole
invariant_of-result-clause-whole g c = c.loop-generator.invariant.total_is ∙ sym (ap sum c.as_slice.ensures.value)

pub invariant_of-result-clause-alive : goal.invariant_of-result-clause-alive
invariant_of-result-clause-alive g c =
    let w = g.K.Key.weighs in
    let gs = c.args.generators.now.each.now in
    let loop = c.loop-generator in
    let all = weights_all w gs _ _ _ _ c.each-generator-items.ensures c.loop-generator-test.false c.load-station.ensures loop.invariant.front in
    some_weight w g.met.K.Key.alive gs (omega arith) (omega arith) _ _ loop.invariant.total_is all

pub returns-clause-value : goal.returns-clause-value
returns-clause-value g c =
    c.as_slice.ensures.value ∙ weights_all g.K.Key.weighs c.args.generators.now.each.now _ _ _ _ c.each-generator-items.ensures c.loop-generator-test.false c.load-station.ensures c.loop-generator.invariant.front

pub returns-clause-small : goal.returns-clause-small
returns-clause-small g c =
    let w = g.K.Key.weighs in
    let gs = c.args.generators.now.each.now in
    let loop = c.loop-generator in
    let all = weights_all w gs _ _ _ _ c.each-generator-items.ensures c.loop-generator-test.false c.load-station.ensures loop.invariant.front in
    small_weights w g.met.K.Key.bounded gs (omega arith) _ (c.as_slice.ensures.value ∙ all)
