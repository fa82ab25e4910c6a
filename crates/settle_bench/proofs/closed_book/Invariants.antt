-- The calls leave the tariff, the stations' generators and what they have paid.
use Rattle.settle_bench.proofs.closed_book.Given as goal
use Rattle.settle_bench.specs.Full.{Sixteen}
use Rattle.std.proofs.Common.{◌≡◌}
use Rattle.tariff.specs.declared.banded.Banded.TheVariants.{From10}

abbrev pub invariant-loop-t : goal.invariant-loop-t
invariant-loop-t l = (l.book.tariff ≡ From10) × Sixteen l.book.stations.items
