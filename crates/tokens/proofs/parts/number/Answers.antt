use Rattle.std.proofs.Common.{refl, arith}
use Rattle.tokens.proofs.Pieces.{counted, counted_zero}
use Rattle.tokens.proofs.parts.number.Goals as goal

pub returns-in-48 : goal.returns-in-48
returns-in-48 c = counted_zero _ _ _ (omega arith) (omega arith) refl refl

pub returns-in-49-to-57 : goal.returns-in-49-to-57
returns-in-49-to-57 c =
    counted _ _ _ c.more_digits.result (omega arith) (omega arith) (omega arith) c.more_digits.ensures c.split_at.ensures.front c.split_at.ensures.back
