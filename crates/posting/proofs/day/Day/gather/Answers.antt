use Rattle.std.proofs.Common.{◌≡◌, ◌-◌, sym, ap, ◌∙◌, arith}
use Rattle.posting.proofs.Blocks.{count_to, loads_more}
use Rattle.posting.proofs.day.Day.gather.Goals as goal
use Rattle.posting.specs.Sheets.{sheet_of}
use Rattle.share.specs.Loads.{loads}
use Rattle.std.proofs.lemmas.List.{map_push}

pub push-requires : goal.push-requires
push-requires g c =
    let self = c.args.self.now in
    let loop = c.loop-generator in
    let inv = loop.invariant in
    let count = count_to (sheet_of self.pages.now) c.args.block loop.all.items self.members.first loop.generator-iterator.start inv.taken in
    (omega arith, omega (arith, c.in-Some.ensures.steps.1.0, inv.end, count))

pub loop-generator-preserved : goal.loop-generator-preserved
loop-generator-preserved g c =
    let self = c.args.self.now in
    let loop = c.loop-generator in
    let inv = loop.invariant in
    let step = c.in-Some.ensures.steps in
    let pushed = ap loads c.push.ensures.items ∙ map_push (λ x. x.load) loop.all.items c.generator_at.result in
    let more = loads_more (sheet_of self.pages.now) c.args.block self.members.first loop.generator-iterator.start inv.low in
    let read = rw step.1.1 at c.generator_at.ensures in
    record {
      low = omega (arith, inv.low, step.1.2);
      high = omega (arith, step.0, step.1.0, step.1.2);
      end = step.0 ∙ inv.end;
      taken = rw step.1.2 ((rw (inv.taken, read) at pushed) ∙ sym more);
    }

pub returns : goal.returns
returns g c =
    let m = c.args.self.now.members in
    let inv = c.loop-generator.invariant in
    let whole : c.loop-generator.generator-iterator.start - m.first ≡ m.count = omega (arith, c.in-None.ensures.steps.1.0, inv.high, inv.end) in
    rw whole at inv.taken
