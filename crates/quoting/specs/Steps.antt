-- How a request comes from its lines, one after another.
use Rattle.std.specs.Prelude.{ℕ, not, ◌||◌, List, [], ◌∷◌, ◌++◌, length, is_some, Some, None, Option, ◌==◌, nat_lt}
use Rattle.quoting.specs.Tests.{rate_tests, load_tests}
use Rattle.quoting.specs.declared.choice.KeyChoice.{KeyChoice}
use Rattle.quoting.specs.declared.complaint.Cause.{Cause}
use Rattle.quoting.specs.declared.complaint.Cause.TheVariants.{Above, LateTariff, LateKey, SecondSchedule, EarlyGenerator, ManyGenerators, NoSchedule, NoGenerator}
use Rattle.quoting.specs.declared.complaint.Quantity.TheVariants as quantity
use Rattle.quoting.specs.declared.entry.Entry.TheVariants.{Tariff, Key, Schedule, Generator}
use Rattle.quoting.specs.declared.entry.Entry.{Entry}
use Rattle.quoting.specs.declared.entry.TariffName.{TariffName}
use Rattle.share.specs.declared.load.Load.{Load}
use Rattle.units.specs.Refusals.{when}
use Rattle.units.specs.declared.limits.TheConstants.{GENERATORS, STATION_KW}

-- What the lines so far have given.
pub record Given : Type 0 where
  pub tariff : Option TariffName
  pub key : Option KeyChoice
  pub schedule : Option ℕ
  pub loads : List Load

abbrev pub nothing : Given
nothing = record { tariff = None; key = None; schedule = None; loads = [] }

-- The tariff comes first, then the key, then the schedule, each once; then the generators, as many as a station may have.
abbrev pub tests : Given → Entry → List (Option Cause)
tests s (Tariff name) = when ((is_some s.tariff || is_some s.key) || is_some s.schedule) LateTariff ∷ rate_tests name
tests s (Key key) = when (is_some s.key || is_some s.schedule) LateKey ∷ []
tests s (Schedule kw) =
    when (is_some s.schedule) SecondSchedule
    ∷ when (nat_lt STATION_KW kw) (Above quantity.Schedule STATION_KW)
    ∷ []
tests s (Generator load) =
    when (not (is_some s.schedule)) EarlyGenerator
    ∷ when (length s.loads == GENERATORS) ManyGenerators
    ∷ load_tests load

-- What an accepted line adds.
abbrev pub taken : Given → Entry → Given
taken s (Tariff name) = record s { tariff = Some name }
taken s (Key key) = record s { key = Some key }
taken s (Schedule kw) = record s { schedule = Some kw }
taken s (Generator load) = record s { loads = s.loads ++ (load ∷ []) }

-- What may be missing at the end.
abbrev pub ending : Given → List (Option Cause)
ending s = when (not (is_some s.schedule)) NoSchedule ∷ when (length s.loads == 0) NoGenerator ∷ []
