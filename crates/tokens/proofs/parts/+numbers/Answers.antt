use Rattle.std.proofs.Common.{arith, ltb-true}
use Rattle.tokens.proofs.Pieces.{shut_one, shut_more, no_list_more, no_list_here, exit_is}
use Rattle.tokens.proofs.parts.+numbers.Goals as goal
use Rattle.tokens.proofs.parts.+numbers.Goals.{then-after-lt1, else-after-lt1+in_default-1, in_default-past_space-via-in-Some+else-most-gt1, in_default-past_space-via-in_default-past_space}

pub returns-in-41 : goal.returns-in-41
returns-in-41 t c =
    let n = rw c.in_ok-digits.ensures.ok_part at c.number.ensures in
    shut_one _ _ _ _ c.requires n (omega arith)

pub returns-in_err-numbers-in-Some : goal.returns-in_err-numbers-in-Some
returns-in_err-numbers-in-Some t c =
    let n = rw c.in_ok-digits.ensures.ok_part at c.number.ensures in
    rw (exit_is c.from_residual-in_err-numbers-in-Some.ensures.1) (no_list_more _ _ _ _ _ _ c.if-most-gt1.true n c.in-Some.ensures c.in_err-numbers-in-Some.ensures)

pub returns-in_ok-numbers-in-Some : goal.returns-in_ok-numbers-in-Some
returns-in_ok-numbers-in-Some t c =
    let n = rw c.in_ok-digits.ensures.ok_part at c.number.ensures in
    shut_more _ _ _ _ _ _ c.if-most-gt1.true n c.in-Some.ensures c.in_ok-numbers-in-Some.ensures

pub returns-in_default-past_space : goal.returns-in_default-past_space
returns-in_default-past_space t c =
    let n = rw c.in_ok-digits.ensures.ok_part at c.number.ensures in
    no_list_here _ _ _ _ c.requires n
    (λ some e. elim c.if-after-lt1.branch [ then-after-lt1 w ↦ omega (arith, ltb-true) | else-after-lt1+in_default-1 w ↦ omega arith ])
    (elim c.in_default-past_space.branch [
      | in_default-past_space-via-in-Some+else-most-gt1 w ↦ λ tail e. w.if-most-gt1.false
      | in_default-past_space-via-in_default-past_space w ↦ let none = rw w.in_default-past_space.is at c.past_space.ensures in λ tail e. absurd (none tail e)
    ])
