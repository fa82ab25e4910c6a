use Rattle.std.proofs.Common.{rules}
use Rattle.units.specs.Heads.{openings}
use Rattle.tokens.proofs.Pieces.{exit_is}
use Rattle.lines.proofs.Fitting.{opened}
use Rattle.lines.proofs.read.read_opening.Goals as goal

pub returns-in_err-parts : goal.returns-in_err-parts
returns-in_err-parts c = rw (exit_is c.from_residual.ensures.1) (c.in_err-parts.ensures openings (λ h b k. search rules))

pub returns : goal.returns
returns c = opened c.opening.result (c.in_ok-parts.ensures openings (λ h b k. search rules)) c.opening.ensures
