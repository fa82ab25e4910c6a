use Rattle.std.proofs.Common.{None, Some, refl, true}
use Rattle.whole_day.proofs.Wholes.{day_is, day_unopened, next_as, not_end, on_err, on_ok, opened_as, stopped_last, stopped_lines, stopped_opening}
use Rattle.whole_day.proofs.whole.day.Goals as goal
use Rattle.whole_day.specs.Inputs.{left}

pub returns-in_default-clause-done : goal.returns-in_default-clause-done
returns-in_default-clause-done g c =
    let line = c.next_line.new.line.items in
    let known = left g.R.Read.remaining c.args.ahead.now c.args.reader.now in
    let new = left g.R.Read.remaining c.next_line.new.self c.next_line.new.reader in
    day_unopened c.args.tariff c.args.key known new line c.in_ok-fed.fed c.args.pages.now c.open_by.new.pages (g.W.Write.contents c.args.writer.now) (g.W.Write.contents c.next_line.new.writer) (g.W.Write.contents c.open_by.new.writer)
    c.in_ok-fed.ensures.line (not_end _ c.if-is_end.false c.is_end.ensures) c.in_ok-fed.ensures.held
    (opened_as c.args.tariff c.args.key c.deref.result.now line c.args.pages.now c.open_by.new.pages (g.W.Write.contents c.next_line.new.writer) (g.W.Write.contents c.open_by.new.writer) c.in_ok-book.field-0 None c.deref.ensures.0 c.in_default.is c.in_ok-book.ensures.done)

pub returns-clause-done : goal.returns-clause-done
returns-clause-done g c = on_ok c.state_all.result _ _
    (λ stated.
    let line = c.next_line.new.line.items in
    let known = left g.R.Read.remaining c.args.ahead.now c.args.reader.now in
    let new = left g.R.Read.remaining c.next_line.new.self c.next_line.new.reader in
    day_is g.met.K.Key.alive c.args.tariff c.args.key known new line c.in_ok-fed.fed c.args.pages.now c.open_by.new.pages c.answer_rest.new.pages c.in-Some.book c.answer_rest.new.book
    (g.W.Write.contents c.args.writer.now) (g.W.Write.contents c.next_line.new.writer) (g.W.Write.contents c.open_by.new.writer) (g.W.Write.contents c.answer_rest.new.writer) (g.W.Write.contents c.state_all.new.writer)
    c.in_ok-fed.ensures.line
    (not_end _ c.if-is_end.false c.is_end.ensures) c.in_ok-fed.ensures.held
    (opened_as c.args.tariff c.args.key c.deref.result.now line c.args.pages.now c.open_by.new.pages (g.W.Write.contents c.next_line.new.writer) (g.W.Write.contents c.open_by.new.writer) c.in_ok-book.field-0 (Some c.in-Some.book) c.deref.ensures.0 c.in-Some.is c.in_ok-book.ensures.done)
    c.in_ok-answer_rest.ensures.done stated)
    c.state_all.ensures

pub returns-in_err-book-clause-failed : goal.returns-in_err-book-clause-failed
returns-in_err-book-clause-failed g c =
    let failed = c.in_err-book.ensures.failed in
    on_err c.from_residual-in_err-book.result _ (stopped_opening g.met.K.Key.alive c.args.tariff c.args.key _ _ c.next_line.new.line.items c.in_ok-fed.fed c.args.pages.now c.open_by.new.pages None None failed.0
    c.in_ok-fed.ensures.line (not_end _ c.if-is_end.false c.is_end.ensures)
    (opened_as c.args.tariff c.args.key c.deref.result.now c.next_line.new.line.items c.args.pages.now c.open_by.new.pages None None failed.0 failed.0 c.deref.ensures.0 refl failed.1))

pub returns-in_err-answer_rest-clause-failed : goal.returns-in_err-answer_rest-clause-failed
returns-in_err-answer_rest-clause-failed g c =
    let failed = c.in_err-answer_rest.ensures.failed in
    on_err c.from_residual-in_err-answer_rest.result _ (stopped_lines g.met.K.Key.alive c.args.tariff c.args.key _ _ c.next_line.new.line.items c.args.pages.now c.open_by.new.pages c.answer_rest.new.pages c.in-Some.book c.answer_rest.new.book _ _
    (next_as _ _ c.next_line.new.line.items c.in_ok-fed.fed true failed.0 c.in_ok-fed.ensures.line)
    (opened_as c.args.tariff c.args.key c.deref.result.now c.next_line.new.line.items c.args.pages.now c.open_by.new.pages (g.W.Write.contents c.next_line.new.writer) (g.W.Write.contents c.open_by.new.writer) c.in_ok-book.field-0 (Some c.in-Some.book) c.deref.ensures.0 c.in-Some.is c.in_ok-book.ensures.done)
    failed.1)

pub returns-clause-failed : goal.returns-clause-failed
returns-clause-failed g c = on_err c.state_all.result _
    (stopped_last g.met.K.Key.alive c.args.tariff c.args.key _ _ c.next_line.new.line.items c.in_ok-fed.fed c.args.pages.now c.open_by.new.pages c.answer_rest.new.pages c.in-Some.book c.answer_rest.new.book _ _ _
    c.in_ok-fed.ensures.line (not_end _ c.if-is_end.false c.is_end.ensures)
    (opened_as c.args.tariff c.args.key c.deref.result.now c.next_line.new.line.items c.args.pages.now c.open_by.new.pages (g.W.Write.contents c.next_line.new.writer) (g.W.Write.contents c.open_by.new.writer) c.in_ok-book.field-0 (Some c.in-Some.book) c.deref.ensures.0 c.in-Some.is c.in_ok-book.ensures.done)
    c.in_ok-answer_rest.ensures.done)
