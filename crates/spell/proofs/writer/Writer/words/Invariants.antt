use Rattle.std.proofs.Common.{map, take}
use Rattle.spell.specs.Pages.{Writes, after_spaces}
use Rattle.spell.specs.Words.{text_of, rooms}
use Rattle.spell.proofs.writer.Writer.words.Given as goal

abbrev pub invariant-loop-word : goal.invariant-loop-word
invariant-loop-word l = Writes (after_spaces (map text_of (take l.word-index l.words))) (rooms (take l.word-index l.words)) l.initial.self l.self
