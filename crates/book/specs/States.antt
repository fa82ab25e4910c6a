-- The book and the pages lent with it, and what every call tests first.
use Rattle.std.specs.Prelude.{◌≡◌, ℕ, ◌+◌, ◌*◌, ◌<◌, ◌≤◌, Bool, not, List, [], ◌∷◌, length, is_some, vec_items, Option, nat_le, nat_lt, slice_index_or}
use Rattle.units.specs.Refusals.{first, when}
use Rattle.book.specs.Sound.{Changes, generators_of, IsBounded}
use Rattle.book.specs.Stations.{fresh, moved, moves, on_stage}
use Rattle.book.specs.declared.book.Book.{Book}
use Rattle.posting.specs.declared.pages.Pages.{Pages}
use Rattle.units.specs.declared.head.Head.{Head}
use Rattle.book.specs.declared.station.Station.{Station}
use Rattle.posting.specs.Days.{StationDay}
use Rattle.share.specs.Rules.{Rules, rules_of}
use Rattle.posting.specs.Sheets.{Sheet, installed_of}
use Rattle.posting.specs.declared.account.Account.{Account}
use Rattle.posting.specs.declared.members.Members.{Members}
use Rattle.share.specs.declared.key.Key as key
use Rattle.tariff.specs.declared.tariff.Tariff as tariff
use Rattle.std.specs.List.{position_or_len}
use Rattle.units.specs.declared.fault.Fault.{Fault}
use Rattle.units.specs.Faults.{page_number}
use Rattle.units.specs.declared.fault.Fault.TheVariants.{NoSuchNumber, ShortPage, WrongPhase}
use Rattle.units.specs.declared.fault.Page.{Page}
use Rattle.units.specs.declared.fault.Page.TheVariants.{Schedules, Capacities, Readings, Accounts}
use Rattle.units.specs.declared.limits.TheConstants.{BLOCKS}
use Rattle.units.specs.declared.station.Kind.TheVariants.{Wind}
use Rattle.units.specs.declared.station.Phase.{Phase}
use Rattle.std.proofs.Common.{lit<, lit≤}

-- by what a book settles, and what it and its pages hold
pub record State : Type 0 where
  pub rules : Rules
  pub stations : List Station
  pub cash : ℕ
  pub schedules : List ℕ
  pub capacities : List ℕ
  pub readings : List (Option ℕ)
  pub accounts : List Account

abbrev pub state : {T K : Type 0} {prices : tariff.Ghosts T} {keys : key.Ghosts K} → Book T K prices keys → Pages → State
state {prices = prices} {keys = keys} b p = record {
  rules = rules_of prices keys b.tariff;
  stations = b.stations.items;
  cash = b.cash;
  schedules = vec_items p.schedules;
  capacities = vec_items p.capacities;
  readings = vec_items p.readings;
  accounts = vec_items p.accounts;
}

-- the pages as a day's figures are taken from them
abbrev pub sheet_at : State → Sheet
sheet_at s = record { schedules = s.schedules; capacities = s.capacities; readings = s.readings; installed = installed_of s.accounts }

-- the day of station t, where these are its generators
abbrev pub day_at : State → ℕ → Members → StationDay
day_at s t m = record { rules = s.rules; sheet = sheet_at s; station = t; members = m }

abbrev pub generators : State → ℕ
generators s = generators_of s.stations

-- one generator, the first
abbrev pub alone : Members
alone = record { first = 0; count = 1; low = lit≤ tt; some = lit< tt; few = lit≤ tt }

-- no station, which stands past the end of the list
abbrev pub nobody : Station
nobody = fresh Wind alone

abbrev pub station_at : State → ℕ → Station
station_at s t = slice_index_or s.stations t nobody

-- a station has the generator, or one before it has
abbrev pub reaches : ℕ → Station → Bool
reaches g x = nat_lt g (x.plant.members.first + x.plant.members.count)

-- the station of a generator: the first that reaches it
abbrev pub owner_of : State → ℕ → ℕ
owner_of s g = position_or_len (reaches g) s.stations

-- the causes that calls share

abbrev pub short_page : Page → ℕ → ℕ → Option Fault
short_page page given needed = when (nat_lt given needed) (ShortPage (page_number page) needed)

-- how many entries the four pages have
pub record Lengths : Type 0 where
  pub schedules : ℕ
  pub capacities : ℕ
  pub readings : ℕ
  pub accounts : ℕ

abbrev pub lengths_in : Pages → Lengths
lengths_in p = record {
  schedules = length (vec_items p.schedules);
  capacities = length (vec_items p.capacities);
  readings = length (vec_items p.readings);
  accounts = length (vec_items p.accounts);
}

abbrev pub lengths_of : State → Lengths
lengths_of s = record {
  schedules = length s.schedules;
  capacities = length s.capacities;
  readings = length s.readings;
  accounts = length s.accounts;
}

-- the first page that is too short for so many stations and generators
abbrev pub short_for : ℕ → ℕ → Lengths → Option Fault
short_for stations generators l = first (
    short_page Schedules l.schedules (BLOCKS * stations)
    ∷ short_page Capacities l.capacities (BLOCKS * generators)
    ∷ short_page Readings l.readings (BLOCKS * generators)
    ∷ short_page Accounts l.accounts generators
    ∷ [])

abbrev pub short_pages : State → Option Fault
short_pages s = short_for (length s.stations) (generators s) (lengths_of s)

-- the pages have room for so many stations and generators
pub record Room (stations generators : ℕ) (l : Lengths) : Type 0 where
  pub schedules : BLOCKS * stations ≤ l.schedules
  pub capacities : BLOCKS * generators ≤ l.capacities
  pub readings : BLOCKS * generators ≤ l.readings
  pub accounts : generators ≤ l.accounts

-- no page is too short
abbrev pub Fit : State → Type 0
Fit s = Room (length s.stations) (generators s) (lengths_of s)

abbrev pub no_station_of : List Station → ℕ → Option Fault
no_station_of ss t = when (nat_le (length ss) t) (NoSuchNumber t)

abbrev pub no_station : ℕ → State → Option Fault
no_station t s = no_station_of s.stations t

abbrev pub no_generator : ℕ → State → Option Fault
no_generator g s = when (nat_le (generators s) g) (NoSuchNumber g)

-- station t does not take the action in its phase
abbrev pub wrong_phase : Head → ℕ → Phase → Option Fault
wrong_phase a t p = when (not (is_some (moves p a))) (WrongPhase t p)

-- the pages fit, and there is station t
abbrev pub presence : ℕ → State → Option Fault
presence t s = first (short_pages s ∷ no_station t s ∷ [])

-- a call on station t that depends on its phase
abbrev pub admission : Head → ℕ → State → Option Fault
admission a t s = first (presence t s ∷ wrong_phase a t (station_at s t).stage.phase ∷ [])

-- the pages fit, and there is generator g
abbrev pub generator_presence : ℕ → State → Option Fault
generator_presence g s = first (short_pages s ∷ no_generator g s ∷ [])

-- a call on generator g that depends on its station's phase
abbrev pub generator_admission : Head → ℕ → State → Option Fault
generator_admission a g s =
    let t = owner_of s g in
    first (generator_presence g s ∷ wrong_phase a t (station_at s t).stage.phase ∷ [])

-- x is the station t of the list: its sums fit, and with this cash it may stay as it is
pub record StationIs (ss : List Station) (cash t : ℕ) (x : Station) : Type 0 where
  pub is : x ≡ slice_index_or ss t nobody
  pub bounded : IsBounded x.balance
  pub stays : Changes ss t cash x cash

-- x is station t, and the pages fit
pub record Found (t : ℕ) (s : State) (x : Station) : Type 0 where
  pub fit : Fit s
  pub station : StationIs s.stations s.cash t x

-- x is station t in the phase that the action leads to, which it may become, and the pages fit
pub record Admitted (a : Head) (t : ℕ) (s : State) (x : Station) : Type 0 where
  pub fit : Fit s
  pub is : x ≡ on_stage (moved a) (station_at s t)
  pub becomes : Changes s.stations t s.cash x s.cash

-- station t has generator g, and the pages fit
pub record Owner (g : ℕ) (s : State) (t : ℕ) : Type 0 where
  pub fit : Fit s
  pub there : g < generators s
  pub within : t < length s.stations
  pub low : (station_at s t).plant.members.first ≤ g
  pub high : g < (station_at s t).plant.members.first + (station_at s t).plant.members.count
  pub is : t ≡ owner_of s g

-- the same, and x is that station in the phase that the action leads to, which it may become
pub record Owned (a : Head) (g : ℕ) (s : State) (x : ℕ × Station) : Type 0 where
  pub owner : Owner g s x.0
  pub is : x.1 ≡ on_stage (moved a) (station_at s x.0)
  pub becomes : Changes s.stations x.0 s.cash x.1 s.cash
