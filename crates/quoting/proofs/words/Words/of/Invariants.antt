use Rattle.std.proofs.Common.{◌≡◌, ◌+◌, map, length}
use Rattle.quoting.proofs.words.Words.of.Given as goal
use Rattle.quoting.specs.Words.{Spaced}
use Rattle.std.specs.Iterator.Adapters.{take_count, take_source}
use Rattle.std.specs.Str.Iter.{split_whitespace_rest}

abbrev pub invariant-loop-word : goal.invariant-loop-word
invariant-loop-word l =
    (length l.each.items + take_count l.word-iterator ≡ 5)
    × Spaced l.line (map (λ x. x.now) l.each.items) (split_whitespace_rest (take_source l.word-iterator))
