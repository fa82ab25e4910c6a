use Rattle.whole_day.proofs.Wholes.{opened_by}
use Rattle.whole_day.proofs.whole.open_by.Goals as goal

pub returns-in_ok-write_front-in-Ok-clause-done : goal.returns-in_ok-write_front-in-Ok-clause-done
returns-in_ok-write_front-in-Ok-clause-done g c =
    opened_by c.args.tariff c.args.key c.args.line.now _ c.start.new.output c.args.pages.now c.start.new.pages c.in-Ok.length c.in-Ok.book (g.W.Write.contents c.args.writer.now) (g.W.Write.contents c.write_front.new.writer) c.in-Ok.ensures
    c.in_ok-write_front-in-Ok.ensures
