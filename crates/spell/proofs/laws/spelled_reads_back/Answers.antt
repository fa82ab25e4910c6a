use Rattle.spell.proofs.Lawful.{read_back}
use Rattle.spell.proofs.laws.spelled_reads_back.Goals as goal

pub returns : goal.returns
returns c = read_back
