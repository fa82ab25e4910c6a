use Rattle.quoting.proofs.Reading.{all_read, one_refused, one_taken, placed_by}
use Rattle.quoting.proofs.request.reads.read_request.Goals as goal
use Rattle.quoting.specs.Lines.{Granted, Refused}
use Rattle.std.proofs.Common.{◌+◌, ◌<◌, length, MatchResult, sym, ◌∙◌, subst, arith, rules}
use Rattle.std.proofs.lemmas.Result.{err_from_is_err_and}
use Rattle.std.specs.Str.Iter.{lines_rest}

pub returns-in_err-map_err : goal.returns-in_err-map_err
returns-in_err-map_err c =
    let inv = c.loop-written.invariant in
    let step = c.in-Some.ensures.steps in
    let m = placed_by (length inv.0 + 1) c.read_line.result c.map_err.result c.map_err.ensures.cases (λ e d p. search rules) in
    let p = err_from_is_err_and c.from_residual.result c.from_residual.ensures.1 in
    rw (p.1, p.2) (one_refused c.args.text.now _ c.in-Some.written.now _ inv.0 c.loop-written.draft c.read_line.new.self inv.1 inv.2 step.0.2 c.read_line.result c.in_err-map_err.field-0.0 c.read_line.ensures (sym m ∙ c.in_err-map_err.was))

pub loop-written-preserved : goal.loop-written-preserved
loop-written-preserved c =
    let inv = c.loop-written.invariant in
    let step = c.in-Some.ensures.steps in
    let m = placed_by (length inv.0 + 1) c.read_line.result c.map_err.result c.map_err.ensures.cases (λ e d p. search rules) in
    let more = one_taken c.args.text.now _ c.in-Some.written.now _ inv.0 c.loop-written.draft c.read_line.new.self inv.1 inv.2 step.0.2 c.read_line.result c.read_line.ensures (sym m ∙ c.in_ok-map_err.was) in
    let shorter : length (lines_rest c.next.new.self) < length (lines_rest c.loop-written.written-iterator) = (c.in-Some.ensures.goes.on tt).2 in (
      more.0,
      more.1,
      more.2,
      omega (arith, inv, more.3),
      omega (arith, inv, shorter),
    )

pub returns : goal.returns
returns c =
    let text = c.args.text.now in
    let inv = c.loop-written.invariant in
    let m = placed_by (length inv.0 + 1) c.finish.result c.map_err-2.result c.map_err-2.ensures.cases (λ e d p. search rules) in
    subst (λ r. MatchResult r (Granted text) (Refused text)) (sym m) (all_read text _ inv.0 c.loop-written.draft c.finish.result inv.1 (search rules) inv.2 c.finish.ensures)
