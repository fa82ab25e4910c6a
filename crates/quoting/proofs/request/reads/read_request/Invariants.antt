use Rattle.std.proofs.Common.{◌≡◌, ◌+◌, ◌≤◌, List, length, Ok}
use Rattle.quoting.proofs.request.reads.read_request.Given as goal
use Rattle.quoting.specs.Drafts.{given_in}
use Rattle.quoting.specs.Lines.{Begins, read}
use Rattle.quoting.specs.Steps.{nothing}
use Rattle.quoting.specs.Words.{Said}
use Rattle.std.specs.Str.Iter.{lines_rest}

abbrev pub invariant-loop-written : goal.invariant-loop-written
invariant-loop-written l =
    (xs : List Said) × Begins l.text xs (lines_rest l.written-iterator) × (read 1 nothing xs ≡ Ok (given_in l.draft))
    × (l.line ≡ length xs + 1) × (l.line + length (lines_rest l.written-iterator) ≤ length l.text + 1)
