use Rattle.std.proofs.KnownBytes.{Keeps-trans}
use Rattle.whole_day.proofs.Inputs.{part_kept, part_line, part_more}
use Rattle.whole_day.proofs.ahead.Ahead.next_line.Goals as goal
use Rattle.whole_day.specs.Inputs.{ahead, left}

pub returns-then-take-clause-line : goal.returns-then-take-clause-line
returns-then-take-clause-line g c =
    let rem = g.R.Read.remaining in
    part_line (left rem c.args.self.now c.args.reader.now) (rem c.fill.new.reader) (ahead c.fill.new.self) (ahead c.take.new.self) c.loop.line.items c.take.new.line.items c.take.result c.if-take.true
    (part_kept _ _ _ c.loop.line.items c.loop.invariant.part c.in_ok-fill.ensures.keeps) c.take.ensures

pub loop-preserved : goal.loop-preserved
loop-preserved g c =
    let rem = g.R.Read.remaining in
    record {
      part = part_more (left rem c.args.self.now c.args.reader.now) (rem c.fill.new.reader) (ahead c.fill.new.self) (ahead c.take.new.self) c.loop.line.items c.take.new.line.items c.take.result c.if-take.false
          (part_kept _ _ _ c.loop.line.items c.loop.invariant.part c.in_ok-fill.ensures.keeps) c.take.ensures;
      held = Keeps-trans _ _ _ c.loop.invariant.held c.in_ok-fill.ensures.held;
    }
