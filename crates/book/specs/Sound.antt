-- What holds of a book's stations between calls.
use Rattle.std.specs.Prelude.{◌≡◌, ℕ, ◌+◌, ◌*◌, ◌^◌, ◌<◌, ◌≤◌, All, false, List, [], ◌∷◌, length, get_or, map, sum_by, take, ℤ, pos, ◌+ℤ◌, ◌≤ℤ◌, slice_index_or, unsigned_abs}
use Rattle.book.specs.Stations.{is_settled}
use Rattle.book.specs.declared.station.Station.{Station}
use Rattle.book.specs.declared.station.balance.Balance.{Balance}
use Rattle.book.specs.declared.station.plant.Plant.{Plant}
use Rattle.units.specs.declared.limits.TheConstants.{BLOCKS, DAY_PAISE, MOST_CASH, SOLAR_SLOTS, STATIONS, WIND_SLOTS}
use Rattle.units.specs.declared.station.Kind.{Kind}
use Rattle.units.specs.declared.station.Kind.TheVariants.{Wind, Solar}

-- how many slots a day has
abbrev pub slots_of : Kind → ℕ
slots_of Wind = WIND_SLOTS
slots_of Solar = SOLAR_SLOTS

-- no day's charges are larger
abbrev pub IsLight : Balance → Type 0
IsLight b = unsigned_abs b.charges ≤ DAY_PAISE

-- Sums that fit. A station is behind by at most what the others are ahead and the cash.
pub record IsBounded (b : Balance) : Type 0 where
  pub light : IsLight b
  pub near : unsigned_abs b.net ≤ MOST_CASH + STATIONS * DAY_PAISE

-- what holds of a station between calls
pub record IsSound (x : Station) : Type 0 where
  pub light : IsLight x.balance
  -- what was drawn runs ahead of what was paid by at most the largest receivable
  pub covered : x.balance.net ≤ℤ pos DAY_PAISE
  -- only blocks of the day are filed
  pub in_day : x.stage.filed.bits < 2 ^ BLOCKS
  -- only slots of the day are used
  pub in_slots : x.stage.slots.bits < 2 ^ slots_of x.plant.kind
  -- no charges stand before it is settled
  pub unposted : is_settled x.stage.phase ≡ false → x.balance.charges ≡ pos 0

-- what was drawn less what was paid, of all stations
abbrev pub nets : List Station → ℤ
nets [] = pos 0
nets (x ∷ xs) = x.balance.net +ℤ nets xs

-- what the stations are
abbrev pub plants : List Station → List Plant
plants ss = map (λ x. x.plant) ss

-- the generators of all stations
abbrev pub generators_of : List Station → ℕ
generators_of ss = sum_by (λ x. x.plant.members.count) ss

-- each station's generators follow those of the stations before
abbrev pub Laid : List Station → Type 0
Laid ss = (k : ℕ) (d : Station) → k < length ss → (get_or ss k d).plant.members.first ≡ generators_of (take k ss)

-- The stations may become zs, and the cash what it is then: all stay what they are, all are sound, and the cash moves by
-- what they drew and paid.
pub record IsReplaced (ss : List Station) (cash : ℕ) (zs : List Station) (then : ℕ) : Type 0 where
  pub placed : plants zs ≡ plants ss
  pub sound : All IsSound zs
  pub low : then ≤ MOST_CASH
  pub even : nets zs +ℤ pos then ≡ nets ss +ℤ pos cash

-- the station at t alone may become x
pub record Changes (ss : List Station) (t cash : ℕ) (x : Station) (then : ℕ) : Type 0 where
  pub within : t < length ss
  pub placed : (d : Station) → x.plant ≡ (slice_index_or ss t d).plant
  pub sound : IsSound x
  pub low : then ≤ MOST_CASH
  pub even : (d : Station) → x.balance.net +ℤ pos then ≡ (slice_index_or ss t d).balance.net +ℤ pos cash
