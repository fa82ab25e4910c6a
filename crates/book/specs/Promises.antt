-- What follows of the calls, in the words of the rules.
use Rattle.std.specs.Prelude.{◌≡◌, ℕ, ◌+◌, ◌-◌, ◌<◌, ◌≤◌, true, false, List, length, Some, Ok, ◌≢◌, slice_index, slice_index_or}
use Rattle.book.specs.Calls.{Outcome, correcting, first_revised, revising, settling}
use Rattle.book.specs.Lists.{entry}
use Rattle.book.specs.States.{State, owner_of, station_at}
use Rattle.book.specs.Stations.{slot_of}
use Rattle.book.specs.declared.station.Station.{Station}
use Rattle.posting.specs.Days.{among, no_account}
use Rattle.units.specs.Bits.{count_of, has}
use Rattle.units.specs.declared.limits.TheConstants.{BLOCKS}

-- the call was accepted
abbrev pub Taken : Outcome → Type 0
Taken o = o.answer ≡ Ok tt

-- the schedule of station t in block b
abbrev pub scheduled : State → ℕ → ℕ → ℕ
scheduled s t b = slice_index s.schedules (entry t b)

-- A revision takes effect from the fourth block on, counting the notice's as the first: it leaves every earlier block,
-- and every block of every other station.
pub record Revised (t n : ℕ) (vs : List ℕ) (before after : State) : Type 0 where
  pub earlier : (b : ℕ) → b < first_revised n → scheduled after t b ≡ scheduled before t b
  pub later : (b : ℕ) → first_revised n ≤ b → b < BLOCKS → scheduled after t b ≡ slice_index vs (b - first_revised n)
  pub others : (u b : ℕ) → (u ≢ t) → b < BLOCKS → scheduled after u b ≡ scheduled before u b

abbrev pub FromTheFourthBlock : Type 0
FromTheFourthBlock =
    (t k n : ℕ) (vs : List ℕ) (s : State) → Taken (revising t k n vs s) → Revised t n vs s (revising t k n vs s).after

-- The notice falls into a slot that is later than every slot used before, so no slot is used twice.
abbrev pub OneRevisionASlot : Type 0
OneRevisionASlot =
    (t k n : ℕ) (vs : List ℕ) (s : State) → Taken (revising t k n vs s)
    → (slot : ℕ) × (slot_of (station_at s t).plant.kind n ≡ Some slot)
    × (k ≡ count_of (station_at s t).stage.slots.bits + 1)
    × ((m : ℕ) → m < 128 → has (station_at s t).stage.slots.bits m ≡ true → m < slot)

-- Posting a station leaves the account of every generator that is not the station's, and every other station.
pub record Apart (t : ℕ) (x : Station) (before after : State) : Type 0 where
  pub accounts : (h : ℕ) → h < length before.accounts → among x.plant.members.first x.plant.members.count h ≡ false → slice_index_or after.accounts h no_account ≡ slice_index_or before.accounts h no_account
  pub stations : (u : ℕ) → (u ≢ t) → station_at after u ≡ station_at before u

abbrev pub NobodyElsesAccount : Type 0
NobodyElsesAccount =
    (s : State)
    → ((t : ℕ) → Taken (settling t s) → Apart t (station_at s t) s (settling t s).after)
    × ((g b kw : ℕ) → Taken (correcting g b kw s) → Apart (owner_of s g) (station_at s (owner_of s g)) s (correcting g b kw s).after)
