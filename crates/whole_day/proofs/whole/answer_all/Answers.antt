use Rattle.std.proofs.Common.{None, false, true}
use Rattle.whole_day.proofs.Wholes.{answered_as, answered_end, answered_last, next_as, not_end, on_err, so_far_more, so_far_none, some_more, some_so_far}
use Rattle.whole_day.proofs.whole.answer_all.Goals as goal
use Rattle.whole_day.specs.Inputs.{left}

pub loop-init : goal.loop-init
loop-init g c = so_far_none (left g.R.Read.remaining c.args.ahead.now c.args.reader.now) c.args.book.now c.args.pages.now (g.W.Write.contents c.args.writer.now)

pub returns-then-is_end-clause-done : goal.returns-then-is_end-clause-done
returns-then-is_end-clause-done g c =
    let end = c.is_end.ensures.0 c.if-is_end.true in
    answered_end _ _ _ c.next_line.new.line.items c.args.book.now c.loop.book c.args.pages.now c.loop.pages _ _ _ c.loop.invariant
    (next_as _ _ c.next_line.new.line.items _ false end.0 c.in_ok-fed.ensures.line) end.1 c.in_ok-fed.ensures.held

pub returns-then-not-fed-clause-done : goal.returns-then-not-fed-clause-done
returns-then-not-fed-clause-done g c =
    answered_last _ _ _ c.next_line.new.line.items c.args.book.now c.loop.book c.answer.new.book c.args.pages.now c.loop.pages c.answer.new.pages _ _ _ _ c.loop.invariant
    (next_as _ _ c.next_line.new.line.items _ false c.if-not-fed.true c.in_ok-fed.ensures.line)
    (λ none. not_end _ c.if-is_end.false c.is_end.ensures (c.if-not-fed.true, none)) c.in_ok-fed.ensures.held
    (answered_as c.deref.result.now c.next_line.new.line.items c.loop.book c.answer.new.book c.loop.pages c.answer.new.pages (g.W.Write.contents c.next_line.new.writer) (g.W.Write.contents c.answer.new.writer) c.deref.ensures.0 c.in_ok-answer.ensures.done)

pub loop-preserved : goal.loop-preserved
loop-preserved g c =
    so_far_more _ _ _ c.next_line.new.line.items c.args.book.now c.loop.book c.answer.new.book c.args.pages.now c.loop.pages c.answer.new.pages _ _ _ _ c.loop.invariant
    (next_as _ _ c.next_line.new.line.items _ true c.if-not-fed.false c.in_ok-fed.ensures.line) c.in_ok-fed.ensures.held
    (answered_as c.deref.result.now c.next_line.new.line.items c.loop.book c.answer.new.book c.loop.pages c.answer.new.pages (g.W.Write.contents c.next_line.new.writer) (g.W.Write.contents c.answer.new.writer) c.deref.ensures.0 c.in_ok-answer.ensures.done)

pub returns-in_err-fed-clause-failed : goal.returns-in_err-fed-clause-failed
returns-in_err-fed-clause-failed g c = on_err c.from_residual.result _
    (some_so_far _ _ c.args.book.now c.loop.book c.args.pages.now c.loop.pages _ _ c.loop.invariant)

pub returns-in_err-answer-clause-failed : goal.returns-in_err-answer-clause-failed
returns-in_err-answer-clause-failed g c = on_err c.from_residual-in_err-answer.result _
    (some_more _ _ _ c.next_line.new.line.items c.in_ok-fed.fed c.args.book.now c.loop.book c.answer.new.book c.args.pages.now c.loop.pages c.answer.new.pages _ _ c.loop.invariant
    c.in_ok-fed.ensures.line (not_end _ c.if-is_end.false c.is_end.ensures)
    (answered_as c.deref.result.now c.next_line.new.line.items c.loop.book c.answer.new.book c.loop.pages c.answer.new.pages None None c.deref.ensures.0 c.in_err-answer.ensures.failed))

pub returns-clause-failed : goal.returns-clause-failed
returns-clause-failed g c =
    some_so_far _ _ c.args.book.now c.loop.book c.args.pages.now c.loop.pages _ _ c.loop.invariant
