use Rattle.std.proofs.Common.{take}
use Rattle.spell.specs.Pages.{Writes}
use Rattle.spell.proofs.writer.Writer.write.Given as goal

abbrev pub invariant-loop-byte : goal.invariant-loop-byte
invariant-loop-byte l = Writes (take l.byte-index l.text) l.byte-index l.initial.self l.self
