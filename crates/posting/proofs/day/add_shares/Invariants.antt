use Rattle.posting.proofs.Sums.{Added}
use Rattle.posting.proofs.day.add_shares.Given as goal
use Rattle.posting.specs.Amounts.{amounts_at}
use Rattle.share.proofs.Splits.{SplitTo}
use Rattle.share.specs.Held.{held}
use Rattle.share.specs.Shares.{shares}

abbrev pub invariant-loop-k : goal.invariant-loop-k
invariant-loop-k l =
    let ws = held l.weights in
    let figures = l.fn.figures in
    record {
      money : SplitTo figures.money ws l.k l.money;
      energy : SplitTo figures.energy ws l.k l.energy;
      added : Added (amounts_at (shares figures.money ws) (shares figures.energy ws)) l.initial.sums l.k l.sums;
    }
