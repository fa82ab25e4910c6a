-- A key by the square of the installed power.
use Rattle.std.specs.Prelude.{ℕ, ◌-◌, ◌*◌, ◌^◌, min}
use Rattle.share.specs.declared.load.Load.{Load}
use Rattle.std.specs.Int.{div_ceil}
use Rattle.units.specs.declared.limits.TheConstants.{STATION_KW}

-- in units of STATION_KW, rounded up; of 32 bits at most
abbrev pub by_square : Load → Load → ℕ
by_square own station = min (div_ceil (own.installed * own.installed) STATION_KW) (2 ^ 32 - 1)
