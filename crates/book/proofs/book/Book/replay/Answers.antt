-- One call more, and the whole run.
use Rattle.book.proofs.Runs.{run_all, run_more}
use Rattle.book.proofs.book.Book.replay.Goals as goal
use Rattle.book.specs.States.{state}
use Rattle.std.proofs.Common.{vec_items, ◌∙◌, arith}
use Rattle.units.specs.declared.call.Call.{Call}
use Rattle.units.specs.declared.call.Call.TheVariants.{File}

pub loop-call-preserved : goal.loop-call-preserved
loop-call-preserved g c =
    let cs = c.args.calls.now in
    let i = c.loop-call.call-index in
    let none : Call = File 0 0 0 0 in
    let m = state c.loop-call.self c.loop-call.pages in
    let does = c.apply-answer.ensures.does in (
      run_more cs i none (vec_items c.loop-call.answers) _ (state c.args.self.now c.args.pages.now) m _ c.apply-answer.result
          c.loop-call-test.true c.loop-call.invariant.0
          does.answer
          does.after
          c.push_reserved.ensures.items,
      omega arith,
      omega arith,
      c.apply-answer.ensures.tariff ∙ c.loop-call.invariant.3,
      c.apply-answer.ensures.key ∙ c.loop-call.invariant.4,
    )

pub returns : goal.returns
returns g c =
    let s = state c.args.self.now c.args.pages.now in
    let e = state c.loop-call.self c.loop-call.pages in
    record {
      run = run_all c.args.calls.now c.loop-call.call-index (vec_items c.loop-call.answers) s e c.loop-call-test.false c.loop-call.invariant.0;
      tariff = c.loop-call.invariant.3;
      key = c.loop-call.invariant.4;
    }
