use Rattle.std.proofs.Common.{refl}
use Rattle.std.specs.Fmt.{digits}
use Rattle.spell.specs.Answers.{refusal_line}
use Rattle.spell.specs.Statements.{station_text, generator_text}
use Rattle.spell.proofs.laws.worked_lines.Goals as goal

pub returns : goal.returns
unfolding digits refusal_line station_text generator_text
returns c = record { accepted = refl; refused = refl; payment = refl; revised = refl; stated = refl }
