use Rattle.std.proofs.Common.{◌≡◌, ◌+◌, ◌-◌, ◌≤◌}
use Rattle.posting.proofs.day.Day.gather.Given as goal
use Rattle.posting.specs.Sheets.{loads_from, sheet_of}
use Rattle.share.specs.Loads.{loads}

abbrev pub invariant-loop-generator : goal.invariant-loop-generator
invariant-loop-generator g l =
    let first = l.self.members.first in
    let next = l.generator-iterator.start in
    record {
      low : first ≤ next;
      high : next ≤ l.generator-iterator.end;
      end : l.generator-iterator.end ≡ first + l.self.members.count;
      taken : loads l.all.items ≡ loads_from (sheet_of l.self.pages.now) l.block first (next - first);
    }
