use Rattle.quoting.proofs.words.splits.number.Given as goal
use Rattle.quoting.specs.Words.{digits_from}
use Rattle.std.proofs.Common.{◌≡◌, drop}

abbrev pub invariant-loop-digit : goal.invariant-loop-digit
invariant-loop-digit l = digits_from 0 l.word ≡ digits_from l.value (drop l.digit-index l.word)
