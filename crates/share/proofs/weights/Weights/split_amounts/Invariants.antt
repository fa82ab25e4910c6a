use Rattle.std.proofs.Common.{◌≡◌, take}
use Rattle.share.proofs.Splits.{SplitTo}
use Rattle.share.proofs.weights.Weights.split_amounts.Given as goal
use Rattle.share.specs.Amounts.{energies, moneys}
use Rattle.share.specs.Held.{held}
use Rattle.share.specs.Shares.{shares}

abbrev pub invariant-loop-weight : goal.invariant-loop-weight
invariant-loop-weight l = record {
  money_at : SplitTo l.fn.amounts.money (held l.self) l.weight-index l.money;
  energy_at : SplitTo l.fn.amounts.energy (held l.self) l.weight-index l.energy;
  money : moneys l.each.items ≡ take l.weight-index (shares l.fn.amounts.money (held l.self));
  energy : energies l.each.items ≡ take l.weight-index (shares l.fn.amounts.energy (held l.self));
}
