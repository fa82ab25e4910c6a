use Rattle.tokens.proofs.Pieces.{exit_is}
use Rattle.lines.proofs.Fitting.{headed, misfits, fitting}
use Rattle.lines.proofs.read.read_wanted.Goals as goal

pub returns-in_err-parts : goal.returns-in_err-parts
returns-in_err-parts g c heads tells = rw (exit_is c.from_residual.ensures.1) (c.in_err-parts.ensures.1 heads)

pub returns-in_err-head : goal.returns-in_err-head
returns-in_err-head g c heads tells =
    rw (exit_is c.from_residual-in_err-head.ensures.1) (headed _ _ c.in_ok-parts.ensures tells c.head.ensures c.filter.ensures c.in_err-head.ensures.value)

pub returns-in_err-fit : goal.returns-in_err-fit
returns-in_err-fit g c heads tells =
    let k = headed _ _ c.in_ok-parts.ensures tells c.head.ensures c.filter.ensures c.in_ok-head.ensures.value in
    rw (exit_is c.from_residual-in_err-fit.ensures.1) (misfits c.in_ok-parts.ensures k c.in_err-fit.ensures)

pub returns : goal.returns
returns g c heads tells =
    let k = headed _ _ c.in_ok-parts.ensures tells c.head.ensures c.filter.ensures c.in_ok-head.ensures.value in
    fitting c.in_ok-parts.ensures k c.in_ok-fit.ensures
