-- What the pages of a day hold, and a station's numbers in one block.
use Rattle.std.specs.Prelude.{◌≡◌, ℕ, zero, suc, ◌+◌, ◌*◌, min, List, [], ◌∷◌, map, replicate, None, Option, vec_items, slice_index, slice_index_or}
use Rattle.posting.specs.Amounts.{opened_account}
use Rattle.posting.specs.declared.account.Account.{Account}
use Rattle.posting.specs.declared.members.Members.{Members}
use Rattle.posting.specs.declared.pages.Pages.{Pages}
use Rattle.share.specs.Keys.{totals}
use Rattle.share.specs.Loads.{nearest_installed, nearest_load}
use Rattle.share.specs.declared.load.Load.{Load}
use Rattle.std.specs.Option.{unwrap_or}
use Rattle.tariff.specs.declared.query.Query.{Query}
use Rattle.units.specs.declared.limits.TheConstants.{BLOCKS, STATION_KW}

-- schedules, 96 a station; capacities and readings, 96 a generator; installed power, 1 a generator
pub record Sheet : Type 0 where
  pub schedules : List ℕ
  pub capacities : List ℕ
  pub readings : List (Option ℕ)
  pub installed : List ℕ

abbrev pub installed_of : List Account → List ℕ
installed_of accounts = map (λ a. a.installed) accounts

abbrev pub sheet_of : Pages → Sheet
sheet_of p = record {
  schedules = vec_items p.schedules;
  capacities = vec_items p.capacities;
  readings = vec_items p.readings;
  installed = installed_of (vec_items p.accounts);
}

-- new pages: no schedule and no capacity, no reading, and accounts of zeros
pub record Blank (stations generators : ℕ) (p : Pages) : Type 0 where
  pub schedules : vec_items p.schedules ≡ replicate (BLOCKS * stations) 0
  pub capacities : vec_items p.capacities ≡ replicate (BLOCKS * generators) 0
  pub readings : vec_items p.readings ≡ replicate (BLOCKS * generators) None
  pub accounts : vec_items p.accounts ≡ replicate generators (opened_account 0)

-- a generator's installed power, as the nearest number allowed
abbrev pub installed_power_at : List Account → ℕ → ℕ
installed_power_at accounts g = nearest_installed (slice_index (installed_of accounts) g)

-- what the station t has scheduled for the block b: no more than a station may
abbrev pub schedule_entry_at : List ℕ → ℕ → ℕ → ℕ
schedule_entry_at schedules t b = min (slice_index schedules (BLOCKS * t + b)) STATION_KW

-- the generator g in the block b
abbrev pub load_at : Sheet → ℕ → ℕ → Load
load_at s g b = nearest_load
    (slice_index s.installed g)
    (slice_index s.capacities (BLOCKS * g + b))
    (unwrap_or (slice_index_or s.readings (BLOCKS * g + b) None) 0)

-- n generators from g on, in the block b
abbrev pub loads_from : Sheet → ℕ → ℕ → ℕ → List Load
loads_from s b g zero = []
loads_from s b g (suc n) = load_at s g b ∷ loads_from s b (g + 1) n

-- a station's generators in the block b
abbrev pub loads_at : Sheet → Members → ℕ → List Load
loads_at s m b = loads_from s b m.first m.count

-- what a tariff is asked of the station t in the block b, where its generators have these loads
abbrev pub query_of : List ℕ → ℕ → ℕ → List Load → Query
query_of schedules t b ls = record {
  station = t;
  block = b;
  schedule = schedule_entry_at schedules t b;
  actual = (totals ls).actual;
  capacity = (totals ls).capacity;
}
