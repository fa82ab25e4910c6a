-- The pages hold the same numbers, and the last book is full, and settled where it was asked for.
use Rattle.posting.specs.Sheets.{sheet_of}
use Rattle.book.specs.States.{state}
use Rattle.settle_bench.proofs.last_book.Given as goal
use Rattle.settle_bench.specs.Full.{Leaves}
use Rattle.std.proofs.Common.{◌≡◌, length, IfSome, vec_items}
use Rattle.units.specs.declared.limits.TheConstants.{ALL_GENERATORS}

abbrev pub invariant-loop : goal.invariant-loop
invariant-loop l =
    (sheet_of l.pages ≡ sheet_of l.initial.pages)
    × (length (vec_items l.pages.accounts) ≡ ALL_GENERATORS)
    × IfSome l.last (λ b. Leaves l.settle (sheet_of l.initial.pages) (state b l.pages))
