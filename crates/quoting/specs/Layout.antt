-- The text of a quotation, as it is printed.
use Rattle.std.specs.Prelude.{ℕ, ◌-◌, List, ◌++◌, codes, decimal, flat_map, length, replicate}
use Rattle.quoting.specs.declared.quotation.Quotation.{Quotation}
use Rattle.share.specs.Amounts.{listed}
use Rattle.share.specs.declared.amounts.Amounts.{Amounts}
use Rattle.std.specs.Fmt.{signed_decimal}
use Rattle.std.specs.List.{enumerate_from}

-- The text at the right end of a column of this width, with spaces before it.
unfoldable pub right : ℕ → List ℕ → List ℕ
right width text = replicate (width - length text) 32 ++ text

-- The line of the station, in kW and paise.
unfoldable pub station_line : Quotation → List ℕ
station_line r =
    codes "station   " ++ right 11 (decimal r.query.schedule) ++ codes " " ++ right 10 (decimal r.query.actual) ++ codes " "
    ++ right 11 (decimal r.query.capacity) ++ codes " " ++ right 12 (signed_decimal r.owed.energy) ++ codes " "
    ++ right 14 (signed_decimal r.owed.money) ++ codes "\n"

-- The line of the generator with this number: its share of the charge, in paise, and of the deviation, in kW.
unfoldable pub generator_line : ℕ × Amounts → List ℕ
generator_line (number, share) =
    codes "generator " ++ right 6 (decimal number) ++ codes " " ++ right 14 (signed_decimal share.money) ++ codes " "
    ++ right 11 (signed_decimal share.energy) ++ codes "\n"

-- A line for each generator, by its number from 0.
abbrev pub generator_lines : List Amounts → List ℕ
generator_lines each = flat_map generator_line (enumerate_from 0 each)

-- A heading and the line of the station, then an empty line, a heading, and the lines of the generators.
abbrev pub quotation_text : Quotation → List ℕ
quotation_text r =
    codes "          schedule/kW  actual/kW capacity/kW deviation/kW   charge/paise\n"
    ++ station_line r
    ++ codes "\n          number    money/paise   energy/kW\n"
    ++ generator_lines (listed r.each)
