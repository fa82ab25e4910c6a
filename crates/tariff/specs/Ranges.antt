-- The queries for which a tariff promises a bound.
use Rattle.std.specs.Prelude.{◌≤◌, ◌&&◌, Bool, nat_le}
use Rattle.tariff.specs.declared.query.Query.{Query}
use Rattle.units.specs.declared.limits.TheConstants.{STATION_KW}

-- The schedule, the actual and the capacity are each a power that a station can have.
pub record IsInRange (q : Query) : Type 0 where
  pub schedule : q.schedule ≤ STATION_KW
  pub actual : q.actual ≤ STATION_KW
  pub capacity : q.capacity ≤ STATION_KW

-- Whether they are.
abbrev pub in_range : Query → Bool
in_range q = nat_le q.schedule STATION_KW && (nat_le q.actual STATION_KW && nat_le q.capacity STATION_KW)
