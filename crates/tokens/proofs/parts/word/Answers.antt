use Rattle.std.proofs.Common.{◌+◌, arith}
use Rattle.tokens.proofs.Pieces.{headed, run_of_word}
use Rattle.tokens.proofs.parts.word.Goals as goal

pub returns-in-97-to-122 : goal.returns-in-97-to-122
returns-in-97-to-122 c =
    headed _ _ _ (1 + c.more_letters.result) (omega arith) (omega arith) (run_of_word _ _ (omega arith) (omega arith) (omega arith) c.more_letters.ensures) (omega arith) c.split_at.ensures.front c.split_at.ensures.back
