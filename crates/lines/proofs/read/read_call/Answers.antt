use Rattle.std.proofs.Common.{rules}
use Rattle.units.specs.Heads.{calls}
use Rattle.tokens.proofs.Pieces.{exit_is}
use Rattle.lines.proofs.Fitting.{called}
use Rattle.lines.proofs.read.read_call.Goals as goal

pub returns-in_err-head : goal.returns-in_err-head
returns-in_err-head c = rw (exit_is c.from_residual.ensures.1) (c.in_err-head.ensures calls (λ h b k. search rules))

pub returns : goal.returns
returns c =
    called c.from_parts.result (c.in_ok-head.ensures calls (λ h b k. search rules)) c.call.ensures.head c.call.ensures.values c.from_parts.ensures c.ok_or.ensures.value
