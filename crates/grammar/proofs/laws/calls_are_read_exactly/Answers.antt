use Rattle.grammar.proofs.Exactly.{calls_exact}
use Rattle.grammar.proofs.laws.calls_are_read_exactly.Goals as goal

pub returns : goal.returns
returns c = calls_exact
