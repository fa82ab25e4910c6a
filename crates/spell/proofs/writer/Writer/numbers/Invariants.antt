use Rattle.std.proofs.Common.{◌*◌, map, take, decimal}
use Rattle.spell.specs.Pages.{Writes, after_spaces}
use Rattle.spell.proofs.writer.Writer.numbers.Given as goal

abbrev pub invariant-loop-n : goal.invariant-loop-n
invariant-loop-n l = Writes (after_spaces (map decimal (take l.n-index l.rest))) (21 * l.n-index) l.initial.self l.self
