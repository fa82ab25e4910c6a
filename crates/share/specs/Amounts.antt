-- Money and energy together.
use Rattle.std.specs.Prelude.{List, map, take, ℤ}
use Rattle.share.specs.declared.amounts.Amounts.{Amounts}
use Rattle.share.specs.declared.amounts.GeneratorAmounts.{GeneratorAmounts}

abbrev pub moneys : List Amounts → List ℤ
moneys each = map (λ a. a.money) each

abbrev pub energies : List Amounts → List ℤ
energies each = map (λ a. a.energy) each

-- what each generator gets
abbrev pub listed : GeneratorAmounts → List Amounts
listed g = take g.count g.each
