-- A full book: as many stations as a book may have, each of as many generators as a station may have.
use Rattle.std.specs.Prelude.{◌≡◌, ℕ, ◌+◌, ◌*◌, ◌<◌, Bool, IsTrue, List, length, ℤ, pos, slice_index_or}
use Rattle.book.specs.States.{State, nobody, sheet_at, station_at}
use Rattle.book.specs.declared.station.Station.{Station}
use Rattle.posting.specs.Days.{StationDay, energy_share, money_share, no_account, standing_charges, sum_to}
use Rattle.share.specs.Rules.{Rules}
use Rattle.posting.specs.Sheets.{Sheet}
use Rattle.posting.specs.declared.members.Members.{Members}
use Rattle.share.specs.Keys.{by_units}
use Rattle.tariff.specs.Bands.{banded_charge}
use Rattle.tariff.specs.declared.banded.Banded.TheVariants.{From10}
use Rattle.units.specs.declared.limits.TheConstants.{ALL_GENERATORS, BLOCKS, GENERATORS, STATIONS}

-- the tariff with bands from 10 percent, and the key by units
abbrev pub bench_rules : Rules
bench_rules = record { charge = banded_charge From10; weighs = by_units }

-- the day of station t by these rules
abbrev pub day_by : Sheet → ℕ → Members → StationDay
day_by s t m = record { rules = bench_rules; sheet = s; station = t; members = m }

-- the generators of the station t
pub record Placed (t : ℕ) (m : Members) : Type 0 where
  pub first : m.first ≡ GENERATORS * t
  pub count : m.count ≡ GENERATORS

-- what the k-th generator of the station t gets of the charges, and of the deviations
abbrev pub money_of : Sheet → ℕ → Members → ℕ → ℤ
money_of s t m k = sum_to (money_share (day_by s t m) k) BLOCKS

abbrev pub energy_of : Sheet → ℕ → Members → ℕ → ℤ
energy_of s t m k = sum_to (energy_share (day_by s t m) k) BLOCKS

-- sixteen stations, each with its generators, that have neither paid nor drawn
pub record Sixteen (stations : List Station) : Type 0 where
  pub many : length stations ≡ STATIONS
  pub placed : (t : ℕ) → t < STATIONS → Placed t (slice_index_or stations t nobody).plant.members
  pub even : (t : ℕ) → t < STATIONS → (slice_index_or stations t nobody).balance.net ≡ pos 0

-- a full book over the pages of a day
pub record Full (s : Sheet) (z : State) : Type 0 where
  pub sheet : sheet_at z ≡ s
  pub accounts : length z.accounts ≡ ALL_GENERATORS
  pub stations : Sixteen z.stations

-- the charges of the station t stand, and its generators have their shares
pub record Done (s : Sheet) (z : State) (t : ℕ) : Type 0 where
  pub charges : (station_at z t).balance.charges ≡ standing_charges (day_by s t (station_at z t).plant.members)
  pub money : (k : ℕ) → k < GENERATORS → (slice_index_or z.accounts (GENERATORS * t + k) no_account).money ≡ money_of s t (station_at z t).plant.members k
  pub energy : (k : ℕ) → k < GENERATORS → (slice_index_or z.accounts (GENERATORS * t + k) no_account).energy ≡ energy_of s t (station_at z t).plant.members k

-- the stations before n are settled
pub record DoneTo (n : ℕ) (s : Sheet) (z : State) : Type 0 where
  pub full : Full s z
  pub done : (t : ℕ) → t < n → Done s z t

-- what one book leaves: the day's numbers as they were and, where it was settled, all that settling posts
pub record Leaves (settle : Bool) (s : Sheet) (z : State) : Type 0 where
  pub full : Full s z
  pub done : IsTrue settle → DoneTo STATIONS s z
