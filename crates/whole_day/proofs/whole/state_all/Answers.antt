use Rattle.book.specs.States.{state}
use Rattle.whole_day.proofs.Wholes.{stated_more, stated_none, stated_until}
use Rattle.whole_day.proofs.whole.state_all.Goals as goal

pub loop-t-init : goal.loop-t-init
loop-t-init g c = stated_none (g.T.Tariff.code_of c.args.book.now.tariff) (state c.args.book.now c.args.pages.now) (g.W.Write.contents c.args.writer.now)

pub loop-t-preserved : goal.loop-t-preserved
loop-t-preserved g c =
    stated_more (g.T.Tariff.code_of c.args.book.now.tariff) c.loop-t.t (state c.args.book.now c.args.pages.now) c.loop-t.output c.statement.new.output c.in-Ok.length (g.W.Write.contents c.args.writer.now) (g.W.Write.contents c.loop-t.writer) (g.W.Write.contents c.write_front.new.writer)
    c.in-Ok.ensures.told c.loop-t.invariant c.in_ok-write_front-in-Ok.ensures

pub returns-in-Err : goal.returns-in-Err
returns-in-Err g c =
    stated_until (g.T.Tariff.code_of c.args.book.now.tariff) c.loop-t.t (state c.args.book.now c.args.pages.now) c.loop-t.output c.statement.new.output c.in-Err.field-0 (g.W.Write.contents c.args.writer.now) (g.W.Write.contents c.loop-t.writer)
    c.loop-t-test.array_long c.in-Err.ensures.told c.loop-t.invariant
