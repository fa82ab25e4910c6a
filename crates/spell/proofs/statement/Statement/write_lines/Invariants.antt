use Rattle.std.proofs.Common.{◌*◌, take}
use Rattle.std.specs.List.{flat_map}
use Rattle.spell.specs.Pages.{Writes}
use Rattle.spell.specs.Statements.{generator_text}
use Rattle.spell.proofs.statement.Statement.write_lines.Given as goal

abbrev pub invariant-loop-g : goal.invariant-loop-g
invariant-loop-g l = Writes (flat_map generator_text (take l.g-index l.g-items)) (80 * l.g-index) l.initial.writer l.writer
