-- A call as its line on a page.
use Rattle.std.specs.Prelude.{ℕ, List, [], ◌∷◌, Option}
use Rattle.units.specs.declared.fault.Fault.{Fault}
use Rattle.grammar.specs.Calls.{form}
use Rattle.units.specs.Calls.{Asked}
use Rattle.grammar.specs.Grammar.{spelled}
use Rattle.grammar.specs.declared.line.TheConstants.{LONGEST_LINE}
use Rattle.units.specs.Refusals.{first}
use Rattle.spell.specs.Causes.{short_page, misfit, long_line}
use Rattle.spell.specs.Pages.{Wrote, writing}
use Rattle.spell.specs.Words.{holds}

-- The least page is one that the longest line fits on.
unfoldable pub spelling_of : Option Fault → List ℕ → List ℕ → Wrote
spelling_of unheld line page = writing (first (short_page LONGEST_LINE page ∷ unheld ∷ long_line line ∷ [])) line page

abbrev pub spelling : Asked → List ℕ → Wrote
spelling a page = spelling_of (misfit holds a.values) (spelled (form a)) page
