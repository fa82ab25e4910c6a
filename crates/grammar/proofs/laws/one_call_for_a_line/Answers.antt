use Rattle.grammar.proofs.Canon.{canonical}
use Rattle.grammar.proofs.laws.one_call_for_a_line.Goals as goal

pub returns : goal.returns
returns c = canonical
