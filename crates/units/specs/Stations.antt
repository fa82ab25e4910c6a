-- The numbers by which kinds of stations and phases go.
use Rattle.std.specs.Prelude.{◌≡◌, ◌<◌, ℕ, Result, MatchResult}
use Rattle.units.specs.declared.station.Kind.{Kind}
use Rattle.units.specs.declared.station.Kind.TheVariants.{Wind, Solar}
use Rattle.units.specs.declared.station.Phase.{Phase}
use Rattle.units.specs.declared.station.Phase.TheVariants.{Filing, Running, Metering, Settled}
use Rattle.units.specs.declared.station.UnknownKind.{UnknownKind}

abbrev pub kind_number : Kind → ℕ
kind_number Wind = 0
kind_number Solar = 1

-- the kind that goes by the number, or the number, which is above each kind's
abbrev pub IsKindNumbered : ℕ → Result Kind UnknownKind → Type 0
IsKindNumbered number r = MatchResult r (λ kind. kind_number kind ≡ number) (λ e. (e.0 ≡ number) × (1 < number))

abbrev pub phase_number : Phase → ℕ
phase_number Filing = 0
phase_number Running = 1
phase_number Metering = 2
phase_number Settled = 3
