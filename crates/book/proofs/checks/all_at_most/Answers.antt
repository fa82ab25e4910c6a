use Rattle.std.proofs.Common.{◌≡◌, length, ◌∙◌, arith}
use Rattle.book.proofs.Values.{found, none}
use Rattle.book.proofs.checks.all_at_most.Goals as goal
use Rattle.std.proofs.lemmas.List.{take_all}
use Rattle.std.proofs.lemmas.Result.{err_from_is_err_and}

pub returns-in_err-at_most : goal.returns-in_err-at_most
returns-in_err-at_most c =
    let p = err_from_is_err_and c.from_residual.result c.from_residual.ensures.1 in
    rw (p.1, p.2) (found c.args.limit c.args.values.now c.loop-i.i _ (omega arith) c.loop-i.invariant.1 c.in_err-at_most.ensures)

pub returns : goal.returns
returns c =
    let vs = c.args.values.now in
    let end : c.loop-i.i ≡ length vs = omega arith in
    (none c.args.limit vs (λ k h. c.loop-i.invariant.1 k (omega arith)), c.loop-i.invariant.0 ∙ take_all c.loop-i.i vs (omega arith))
