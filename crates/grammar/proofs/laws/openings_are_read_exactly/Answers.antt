use Rattle.grammar.proofs.Exactly.{openings_exact}
use Rattle.grammar.proofs.laws.openings_are_read_exactly.Goals as goal

pub returns : goal.returns
returns c = openings_exact
