-- A day's numbers, as they are lent.
use Rattle.std.specs.Prelude.{ℕ, List, map, Some}
use Rattle.posting.specs.Sheets.{Sheet}
use Rattle.settle_bench.specs.declared.Day.{Day}

-- the pages of a day on which every reading is there
abbrev pub day_sheet : List ℕ → List ℕ → List ℕ → List ℕ → Sheet
day_sheet installed schedules capacities readings = record { schedules = schedules; capacities = capacities; readings = map Some readings; installed = installed }

abbrev pub given_sheet : Day → Sheet
given_sheet d = day_sheet d.installed.now d.schedules.now d.capacities.now d.readings.now
