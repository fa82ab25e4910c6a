use Rattle.std.proofs.Common.{arith}
use Rattle.share.proofs.Ranges.{station_in_range}
use Rattle.posting.proofs.day.Day.query.Goals as goal

pub returns-clause-in_range : goal.returns-clause-in_range
returns-clause-in_range g c =
    let total = station_in_range c.args.generators.now.each.now (omega arith) in
    record {
      schedule = omega arith;
      actual = rw c.load-load.ensures total.actual;
      capacity = rw c.load-load.ensures total.capacity;
    }
