-- Which numbers of a line are refused: tests in order, each with the cause that it gives.
use Rattle.std.specs.Prelude.{List, [], ◌∷◌, Option, nat_lt}
use Rattle.quoting.specs.declared.complaint.Cause.TheVariants.{Above, Under}
use Rattle.quoting.specs.declared.complaint.Cause.{Cause}
use Rattle.quoting.specs.declared.complaint.Quantity.TheVariants.{ExportRate, DomesticRate, Installed, Capacity, Reading}
use Rattle.quoting.specs.declared.entry.TariffName.TheVariants.{Bands, Rates}
use Rattle.quoting.specs.declared.entry.TariffName.{TariffName}
use Rattle.share.specs.declared.load.Load.{Load}
use Rattle.units.specs.Refusals.{when}
use Rattle.units.specs.declared.limits.TheConstants.{GENERATOR_KW, HIGHEST_RATE, LEAST_INSTALLED, MOST_INSTALLED}

-- Both rates are at most the highest rate.
abbrev pub rate_tests : TariffName → List (Option Cause)
rate_tests (Bands bands) = []
rate_tests (Rates export domestic) =
    when (nat_lt HIGHEST_RATE export) (Above ExportRate HIGHEST_RATE)
    ∷ when (nat_lt HIGHEST_RATE domestic) (Above DomesticRate HIGHEST_RATE)
    ∷ []

-- A generator has the power installed that it may have, the capacity is at most that, and the reading at most its limit.
abbrev pub load_tests : Load → List (Option Cause)
load_tests load =
    when (nat_lt load.installed LEAST_INSTALLED) (Under Installed LEAST_INSTALLED)
    ∷ when (nat_lt MOST_INSTALLED load.installed) (Above Installed MOST_INSTALLED)
    ∷ when (nat_lt load.installed load.capacity) (Above Capacity load.installed)
    ∷ when (nat_lt GENERATOR_KW load.actual) (Above Reading GENERATOR_KW)
    ∷ []
