-- A station's statement, as a text.
use Rattle.std.specs.Prelude.{ℕ, ◌+◌, List, [], ◌∷◌, take, drop, Option}
use Rattle.book.specs.States.{State, presence, station_at}
use Rattle.book.specs.Stations.{due_of}
use Rattle.posting.specs.declared.account.Account.{Account}
use Rattle.spell.specs.Causes.{short_page}
use Rattle.spell.specs.Pages.{Wrote, writing}
use Rattle.book.specs.declared.answers.Statement.{Statement as Figures}
use Rattle.spell.specs.Statements.{statement_text, stating}
use Rattle.spell.specs.declared.figures.GeneratorLine.{GeneratorLine}
use Rattle.spell.specs.declared.figures.StationLine.{StationLine}
use Rattle.spell.specs.declared.statement.TheConstants.{STATEMENT_PAGE}
use Rattle.units.specs.Refusals.{first}
use Rattle.units.specs.declared.fault.Fault.{Fault}

-- under a tariff with this code
abbrev pub station_line : ℕ → ℕ → State → StationLine
station_line code t s = record {
  station = t;
  code = code;
  charges = (station_at s t).balance.charges;
  due = due_of (station_at s t).balance;
  cash =
      s.cash;
}

abbrev pub line_at : ℕ → Account → GeneratorLine
line_at g a = record { generator = g; energy = a.energy; money = a.money }

-- the generators from number g on
abbrev pub lines_from : ℕ → List Account → List GeneratorLine
lines_from g [] = []
lines_from g (a ∷ rest) = line_at g a ∷ lines_from (g + 1) rest

-- these figures at the front of the page
abbrev pub writing_figures : Figures → List ℕ → Wrote
writing_figures f out = stating
    (record { station = f.station; code = f.code; charges = f.charges; due = f.due; cash = f.cash })
    (lines_from f.first f.accounts.now)
    out

abbrev pub generator_lines : ℕ → State → List GeneratorLine
generator_lines t s =
    let own = (station_at s t).plant.members in
    lines_from own.first (take own.count (drop own.first s.accounts))

-- a page under 4,096 bytes, then the pages and the station
abbrev pub untold : ℕ → State → List ℕ → Option Fault
untold t s out = first (short_page STATEMENT_PAGE out ∷ presence t s ∷ [])

-- the statement at the front of the page; or its refusal, and the page as it was
abbrev pub telling : ℕ → ℕ → State → List ℕ → Wrote
telling code t s out =
    writing (untold t s out) (statement_text (station_line code t s) (generator_lines t s)) out
