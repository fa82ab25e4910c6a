use Rattle.quoting.proofs.quotation.Quotation.write_generators.Given as goal
use Rattle.quoting.specs.Layout.{generator_line}
use Rattle.share.specs.Amounts.{listed}
use Rattle.std.proofs.Common.{take}
use Rattle.std.specs.Fmt.{HasWritten, IsPlainFormatter}
use Rattle.std.specs.List.{enumerate_from}
use Rattle.std.specs.Prelude.{flat_map}

abbrev pub invariant-loop-number : goal.invariant-loop-number
invariant-loop-number g l =
    IsPlainFormatter l.initial.f → HasWritten g.W.Write.write_str_gives l.initial.f (flat_map generator_line (take l.number (enumerate_from 0 (listed l.self.each)))) l.f
