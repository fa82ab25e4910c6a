use Rattle.tokens.proofs.Pieces.{end_stays}
use Rattle.tokens.proofs.laws.end_is_answered_again.Goals as goal

pub returns : goal.returns
returns c = end_stays
