-- The stations so far are settled.
use Rattle.posting.specs.Sheets.{sheet_of}
use Rattle.book.specs.States.{state}
use Rattle.settle_bench.proofs.settle_all.Given as goal
use Rattle.settle_bench.specs.Full.{DoneTo}
use Rattle.tariff.specs.declared.banded.Banded.TheVariants.{From10}
use Rattle.std.proofs.Common.{◌≡◌}

abbrev pub invariant-loop-t : goal.invariant-loop-t
invariant-loop-t l = (l.book.tariff ≡ From10) × DoneTo l.t (sheet_of l.initial.pages) (state l.book l.pages)
