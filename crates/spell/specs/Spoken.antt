-- Arguments as words of a line.
use Rattle.units.specs.declared.call.Value as given
use Rattle.spell.specs.declared.words.Word.{Word}
use Rattle.spell.specs.declared.words.Word.TheVariants as word

abbrev pub word_of : given.Value → Word
word_of (given.TheVariants.Number n) = word.Number n
word_of (given.TheVariants.List ns) = word.List ns
