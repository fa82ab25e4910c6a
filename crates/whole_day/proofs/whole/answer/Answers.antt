use Rattle.std.proofs.Common.{refl}
use Rattle.whole_day.proofs.Wholes.{answered_by, answered_unwritten, on_err, on_ok}
use Rattle.whole_day.proofs.whole.answer.Goals as goal

pub returns-in-Ok-clause-done : goal.returns-in-Ok-clause-done
returns-in-Ok-clause-done g c = on_ok c.write_front.result _ _
    (λ appended. answered_by c.args.line.now _ c.line.new.output c.args.book.now c.line.new.book c.args.pages.now c.line.new.pages c.in-Ok.length (g.W.Write.contents c.args.writer.now) (g.W.Write.contents c.write_front.new.writer) refl c.in-Ok.ensures
    appended) c.write_front.ensures

pub returns-in-Ok-clause-failed : goal.returns-in-Ok-clause-failed
returns-in-Ok-clause-failed g c = on_err c.write_front.result _
    (answered_unwritten c.args.line.now _ c.line.new.output c.args.book.now c.line.new.book c.args.pages.now c.line.new.pages c.in-Ok.length refl c.in-Ok.ensures)
