use Rattle.std.proofs.Common.{◌≡◌, ◌+◌, ◌-◌, ◌<◌, Some, Option, sym, ◌∙◌, arith}
use Rattle.posting.proofs.Search.{first_is, from_more, from_none, in_no, in_yes}
use Rattle.posting.proofs.missing.first_missing.Goals as goal
use Rattle.posting.specs.Missing.{first_missing_of}
use Rattle.posting.specs.declared.place.Place.{Place}

pub loop-generator-init : goal.loop-generator-init
loop-generator-init c =
    let m = c.args.members in
    let numbers = c.numbers-generator-items.ensures in
    let all : m.first + m.count - m.first ≡ m.count = omega arith in (
      c.blocks-2.invariant.0,
      rw c.into_iter-generator-iterator.ensures.into_iter_gives numbers.end,
      rw (c.into_iter-generator-iterator.ensures.into_iter_gives, numbers.start, all)
          (sym (from_more c.args.readings.now c.args.except m c.blocks-2.block c.blocks-2-test.true) ∙ c.blocks-2.invariant.1),
    )

pub loop-generator-preserved : goal.loop-generator-preserved
loop-generator-preserved c =
    let m = c.args.members in
    let inv = c.loop-generator.invariant in
    let step = c.in-Some.ensures.steps in
    let g = c.loop-generator.generator-iterator.start in
    let here : g < m.first + m.count = omega (arith, step.1.0, inv.1) in
    let read = rw step.1.1 at c.if-is_missing.ensures in
    let next = in_no c.args.readings.now c.args.except c.blocks-2.block g (m.first + m.count) here (sym read) in
    (inv.0, step.0 ∙ inv.1, rw step.1.2 (rw next at inv.2))

pub returns-then-is_missing : goal.returns-then-is_missing
returns-then-is_missing c =
    let m = c.args.members in
    let inv = c.loop-generator.invariant in
    let step = c.in-Some.ensures.steps in
    let g = c.loop-generator.generator-iterator.start in
    let here : g < m.first + m.count = omega (arith, step.1.0, inv.1) in
    let read = rw step.1.1 at c.if-is_missing.ensures in
    let found = in_yes c.args.readings.now c.args.except c.blocks-2.block g (m.first + m.count) here (sym read) in
    let place : Option Place = Some (record { generator = c.in-Some.generator; block = c.blocks-2.block }) in
    let value : place ≡ first_missing_of c.args.readings.now c.args.except m = rw step.1.1 (rw found at inv.2) in
    record { value = value; first = first_is c.args.readings.now c.args.except m _ value }

pub returns-after-blocks-2 : goal.returns-after-blocks-2
returns-after-blocks-2 c =
    let none = c.blocks-2.invariant.0 ∙ sym (from_none c.args.readings.now c.args.except c.args.members c.blocks-2.block c.blocks-2-test.false) ∙ c.blocks-2.invariant.1 in
    record { value = none; first = first_is c.args.readings.now c.args.except c.args.members _ none }
