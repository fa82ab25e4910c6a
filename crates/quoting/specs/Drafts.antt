-- What a draft holds, and the request that it becomes.
use Rattle.quoting.specs.Choices.{name_of}
use Rattle.quoting.specs.Requests.{loads_of}
use Rattle.quoting.specs.Steps.{Given, taken, tests}
use Rattle.quoting.specs.declared.choice.KeyChoice.TheVariants.{Units}
use Rattle.quoting.specs.declared.complaint.Cause.{Cause}
use Rattle.quoting.specs.declared.draft.Draft.{Draft}
use Rattle.quoting.specs.declared.entry.Entry.{Entry}
use Rattle.quoting.specs.declared.entry.TariffName.TheVariants.{Bands}
use Rattle.quoting.specs.declared.request.Request.{Request}
use Rattle.share.specs.Loads.{loads}
use Rattle.std.specs.Option.{option_map, unwrap_or}
use Rattle.std.specs.Prelude.{◌≡◌, Some, None, Result, MatchResult}
use Rattle.tariff.specs.declared.banded.Banded.TheVariants.{From10}
use Rattle.units.specs.Refusals.{first}

abbrev pub given_in : Draft → Given
given_in d =
    record { tariff = option_map name_of d.tariff; key = d.key; schedule = d.schedule; loads = loads d.generators.items }

-- A draft takes the entry e where no test fails, and is unchanged where one does.
abbrev pub Added : Draft → Entry → Result (Unit {0}) Cause → Draft → Type 0
Added before e r after =
    MatchResult r (λ _. (first (tests (given_in before) e) ≡ None) × (given_in after ≡ taken (given_in before) e))
    (λ c. (first (tests (given_in before) e) ≡ Some c) × (given_in after ≡ given_in before))

-- The request asks for what the lines have given: the tariff of bands from 10 percent where none is named, and the key of units.
pub record Made (s : Given) (q : Request) : Type 0 where
  pub tariff : name_of q.tariff ≡ unwrap_or s.tariff (Bands From10)
  pub key : q.key ≡ unwrap_or s.key Units
  pub schedule : s.schedule ≡ Some q.schedule
  pub loads : loads_of q ≡ s.loads
