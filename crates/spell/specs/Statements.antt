-- What is written for a statement.
use Rattle.std.specs.Prelude.{ℕ, List, [], ◌∷◌, ◌++◌, codes, decimal}
use Rattle.std.specs.List.{flat_map}
use Rattle.std.specs.Fmt.{signed_decimal}
use Rattle.spell.specs.Causes.{short_page}
use Rattle.spell.specs.Pages.{Wrote, writing, line_fed}
use Rattle.spell.specs.declared.statement.TheConstants.{STATEMENT_PAGE}
use Rattle.spell.specs.declared.figures.StationLine.{StationLine}
use Rattle.spell.specs.declared.figures.GeneratorLine.{GeneratorLine}

unfoldable pub station_text : StationLine → List ℕ
station_text s = line_fed (codes "station") (decimal s.station ∷ decimal s.code ∷ signed_decimal s.charges ∷ signed_decimal s.due ∷ decimal s.cash ∷ [])

unfoldable pub generator_text : GeneratorLine → List ℕ
generator_text g = line_fed (codes "generator") (decimal g.generator ∷ signed_decimal g.energy ∷ signed_decimal g.money ∷ [])

abbrev pub statement_text : StationLine → List GeneratorLine → List ℕ
statement_text s gs = station_text s ++ flat_map generator_text gs

abbrev pub stating : StationLine → List GeneratorLine → List ℕ → Wrote
stating s gs page = writing (short_page STATEMENT_PAGE page) (statement_text s gs) page
