-- What opens a book: the causes that refuse it, and the stations and pages as the day begins.
use Rattle.std.specs.Prelude.{◌≡◌, ℕ, ◌+◌, ◌*◌, ◌<◌, ◌≤◌, Bool, if◌then◌else◌, not, ◌&&◌, ◌||◌, List, [], ◌∷◌, map, length, replicate, sum, zip, position, ℤ, pos, Some, None, vec_items, Option, Result, MatchResult, ◌==◌, nat_le, nat_lt, slice_index}
use Rattle.book.specs.Lists.{spliced}
use Rattle.units.specs.Refusals.{first, when}
use Rattle.book.specs.States.{Room, lengths_in, short_for}
use Rattle.book.specs.declared.book.Book.{Book}
use Rattle.posting.specs.declared.pages.Pages.{Pages}
use Rattle.book.specs.declared.station.Station.{Station}
use Rattle.posting.specs.Amounts.{opened_account}
use Rattle.share.specs.declared.key.Key as key
use Rattle.std.specs.List.{flat_map}
use Rattle.std.specs.Option.{option_map}
use Rattle.tariff.specs.declared.tariff.Tariff as tariff
use Rattle.units.specs.declared.call.Opening.{Opening}
use Rattle.units.specs.declared.fault.Fault.{Fault}
use Rattle.units.specs.declared.fault.Fault.TheVariants.{BadStation, InstalledCount, InstalledRange, StationCount}
use Rattle.units.specs.declared.limits.TheConstants.{ALL_GENERATORS, BLOCKS, GENERATORS, LEAST_INSTALLED, MOST_INSTALLED, STATIONS}
use Rattle.units.specs.declared.station.Kind.{Kind}
use Rattle.units.specs.declared.station.Kind.TheVariants.{Wind, Solar}
use Rattle.units.specs.declared.station.Phase.{Phase}
use Rattle.units.specs.declared.station.Phase.TheVariants.{Filing}

-- the generators of all stations
unfoldable pub generators_in : List ℕ → ℕ
generators_in counts = sum counts

-- the causes

-- no station or too many, or not as many counts as kinds
abbrev pub station_count_fault : ℕ → ℕ → Option Fault
station_count_fault kinds counts =
    when (kinds == 0 || (nat_lt STATIONS kinds || not (counts == kinds))) (StationCount kinds counts)

-- a wind station, 0, or a solar one, 1, with some generators, but not too many
abbrev pub sound_station : ℕ → ℕ → Bool
sound_station kind count = nat_le kind 1 && (nat_le 1 count && nat_le count GENERATORS)

-- a kind and a count that are not sound
abbrev pub unsound : ℕ × ℕ → Bool
unsound x = not (sound_station x.0 x.1)

-- the first of the stations that is not sound
abbrev pub bad_stations : List ℕ → List ℕ → Option Fault
bad_stations kinds counts = option_map BadStation (position unsound (zip kinds counts))

-- not an installed power for each generator
abbrev pub installed_count_fault : ℕ → ℕ → Option Fault
installed_count_fault given needed = when (not (given == needed)) (InstalledCount given needed)

-- an installed power that no generator may have
abbrev pub outside : ℕ → Bool
outside kw = nat_lt kw LEAST_INSTALLED || nat_lt MOST_INSTALLED kw

-- the first of the generators with such a power
abbrev pub bad_installed : List ℕ → Option Fault
bad_installed kws = option_map (λ g. InstalledRange g (slice_index kws g)) (position outside kws)

-- the causes in the order in which they count
abbrev pub opening_fault : Opening → Pages → Option Fault
opening_fault o p =
    let kinds = o.kinds.now in
    let counts = o.counts.now in
    let installed = o.installed.now in
    first (
    station_count_fault (length kinds) (length counts)
    ∷ bad_stations kinds counts
    ∷ installed_count_fault (length installed) (generators_in counts)
    ∷ bad_installed installed
    ∷ short_for (length kinds) (generators_in counts) (lengths_in p)
    ∷ [])

-- the stations as the day begins

-- a station's numbers
pub record View : Type 0 where
  pub kind : Kind
  pub phase : Phase
  pub first : ℕ
  pub count : ℕ
  pub filed : ℕ
  pub slots : ℕ
  pub charges : ℤ
  pub net : ℤ

abbrev pub view_of : Station → View
view_of s = record {
  kind = s.plant.kind;
  phase = s.stage.phase;
  first = s.plant.members.first;
  count = s.plant.members.count;
  filed = s.stage.filed.bits;
  slots = s.stage.slots.bits;
  charges = s.balance.charges;
  net = s.balance.net;
}

abbrev pub kind_of : ℕ → Kind
kind_of number = if number == 0 then Wind else Solar

-- a station of `count` generators from number `from` on, with nothing filed, charged, paid or drawn
abbrev pub view_opened : ℕ → Kind → ℕ → View
view_opened from kind count = record {
  kind = kind;
  phase = Filing;
  first = from;
  count = count;
  filed = 0;
  slots = 0;
  charges = pos 0;
  net = pos 0;
}

abbrev pub station_opened : ℕ → ℕ → ℕ → View
station_opened from kind count = view_opened from (kind_of kind) count

-- each station's generators follow those of the stations before
abbrev pub opened_stations : ℕ → List ℕ → List ℕ → List View
opened_stations from [] counts = []
opened_stations from (kind ∷ kinds) [] = []
opened_stations from (kind ∷ kinds) (count ∷ counts) =
    station_opened from kind count ∷ opened_stations (from + count) kinds counts

-- the pages as the day begins

-- one number for each block of a day
unfoldable pub all_day : ℕ → List ℕ
all_day kw = replicate BLOCKS kw

-- The used fronts: no schedule, the installed powers as capacities, no reading, and empty accounts.
-- What lies beyond them is kept.
pub record Begun (stations : ℕ) (installed : List ℕ) (before after : Pages) : Type 0 where
  pub schedules : vec_items after.schedules
      ≡ spliced 0 (replicate (BLOCKS * stations) 0) (vec_items before.schedules)
  pub capacities : vec_items after.capacities
      ≡ spliced 0 (flat_map all_day installed) (vec_items before.capacities)
  pub readings : vec_items after.readings
      ≡ spliced 0 (replicate (BLOCKS * length installed) None) (vec_items before.readings)
  pub accounts : vec_items after.accounts
      ≡ spliced 0 (map opened_account installed) (vec_items before.accounts)

-- what the checks find of an opening

-- each installed power is one that a generator may have
abbrev pub Installable : List ℕ → Type 0
Installable kws =
    (k : ℕ) → k < length kws → (LEAST_INSTALLED ≤ slice_index kws k) × (slice_index kws k ≤ MOST_INSTALLED)

-- sound stations, with as many kinds as counts
pub record Stands (kinds counts : List ℕ) : Type 0 where
  pub some : 0 < length kinds
  pub few : length kinds ≤ STATIONS
  pub same : length counts ≡ length kinds
  pub sound : bad_stations kinds counts ≡ None

-- an opening without fault, of n generators
pub record Openable (o : Opening) (p : Pages) (n : ℕ) : Type 0 where
  pub stations : Stands o.kinds.now o.counts.now
  pub all : n ≡ generators_in o.counts.now
  pub most : n ≤ ALL_GENERATORS
  pub each : length o.installed.now ≡ n
  pub installable : Installable o.installed.now
  pub room : Room (length o.kinds.now) n (lengths_in p)

-- what an opening leaves

-- A book as its day begins, under this tariff and key. The opening has no fault: what it lists may be
-- laid, and the pages have room for it.
pub record Opened {T K : Type 0} {rules : tariff.Ghosts T} {weights : key.Ghosts K}
    (tariff : T) (key : K) (o : Opening) (before after : Pages)
    (b : Book T K rules weights) : Type 0 where
  pub cause : opening_fault o before ≡ None
  pub openable : Openable o before b.generators
  pub tariff_is : b.tariff ≡ tariff
  pub key_is : b.key ≡ key
  pub cash : b.cash ≡ 0
  pub stations : map view_of b.stations.items ≡ opened_stations 0 o.kinds.now o.counts.now
  pub pages : Begun (length o.kinds.now) o.installed.now before after

-- A refusal changes no page.
pub record NotOpened (o : Opening) (before after : Pages) (f : Fault) : Type 0 where
  pub kept : after ≡ before
  pub cause : opening_fault o before ≡ Some f

abbrev pub Opens : {T K : Type 0} {rules : tariff.Ghosts T} {weights : key.Ghosts K}
    → T → K → Opening → Pages → Pages → Result (Book T K rules weights) Fault → Type 0
Opens tariff key o before after r =
    MatchResult r (Opened tariff key o before after) (NotOpened o before after)
