use Rattle.std.proofs.Common.{◌≡◌, ◌*◌, ◌^◌, ◌≤◌, map, take, sum}
use Rattle.share.proofs.weights.Weights.of.Given as goal

abbrev pub invariant-loop-generator : goal.invariant-loop-generator
invariant-loop-generator g l = record {
  front : l.room.items ≡ map (λ x. g.K.Key.weighs x.load l.station) (take l.generator-index l.generators.each.now);
  total_is : l.total ≡ sum l.room.items;
  small : l.total ≤ 2 ^ 32 * l.generator-index;
}
