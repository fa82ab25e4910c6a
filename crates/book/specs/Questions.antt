-- What the questions answer, and why they are refused.
use Rattle.std.specs.Prelude.{◌≡◌, ℕ, ◌-◌, ◌≤◌, [], ◌∷◌, take, drop, None, Option, slice_index_or}
use Rattle.book.specs.Calls.{missing_reading}
use Rattle.book.specs.Causes.{bad_blocks}
use Rattle.units.specs.Refusals.{first}
use Rattle.book.specs.States.{State, admission, day_at, generator_admission, owner_of, station_at}
use Rattle.book.specs.Sound.{slots_of}
use Rattle.book.specs.Stations.{Ask, due_of}
use Rattle.book.specs.declared.answers.Progress.{Progress}
use Rattle.book.specs.declared.answers.Statement.{Statement}
use Rattle.book.specs.declared.station.Station.{Station}
use Rattle.book.specs.declared.station.stage.Stage.{Stage}
use Rattle.posting.specs.Days.{figures_at, no_account, share_at}
use Rattle.posting.specs.Missing.{missing_in}
use Rattle.share.specs.declared.amounts.Amounts.{Amounts}
use Rattle.units.specs.Bits.{count_of}
use Rattle.units.specs.declared.fault.Fault.{Fault}
use Rattle.units.specs.declared.limits.TheConstants.{BLOCKS}

-- the phase, the number of filed blocks and that of revisions used
abbrev pub progress_of : Stage → Progress
progress_of x = record { phase = x.phase; filed = count_of x.filed.bits; revisions = count_of x.slots.bits }

-- the progress of a station, within the blocks and the slots of a day
pub record IsProgress (x : Station) (p : Progress) : Type 0 where
  pub is : p ≡ progress_of x.stage
  pub filed : p.filed ≤ BLOCKS
  pub revisions : p.revisions ≤ slots_of x.plant.kind

-- the first reading of the station t that is missing in the block b
abbrev pub missing_in_block : ℕ → ℕ → State → Option Fault
missing_in_block t b s =
    let m = (station_at s t).plant.members in
    missing_reading (missing_in s.readings None b m.first m.count)

-- a question on the block b of station t
abbrev pub charge_refusal : ℕ → ℕ → State → Option Fault
charge_refusal t b s = first (admission Ask t s ∷ bad_blocks b b ∷ missing_in_block t b s ∷ [])

-- the charge of the block, and by how much the station deviates from its schedule
abbrev pub charge_answer : ℕ → ℕ → State → Amounts
charge_answer t b s = figures_at (day_at s t (station_at s t).plant.members) b

-- a question on the block b of generator g
abbrev pub share_refusal : ℕ → ℕ → State → Option Fault
share_refusal g b s = first (generator_admission Ask g s ∷ bad_blocks b b ∷ missing_in_block (owner_of s g) b s ∷ [])

-- what the generator gets of the charge and of the deviation
abbrev pub share_answer : ℕ → ℕ → State → Amounts
share_answer g b s =
    let t = owner_of s g in
    let m = (station_at s t).plant.members in
    share_at (day_at s t m) (g - m.first) b

-- the statement of station t, under a tariff with this code
pub record Stated (code t : ℕ) (s : State) (a : Statement) : Type 0 where
  pub station : a.station ≡ t
  pub code_is : a.code ≡ code
  pub charges : a.charges ≡ (station_at s t).balance.charges
  pub due : a.due ≡ due_of (station_at s t).balance
  pub cash : a.cash ≡ s.cash
  pub first_is : a.first ≡ (station_at s t).plant.members.first
  pub accounts : a.accounts.now
      ≡ take (station_at s t).plant.members.count (drop (station_at s t).plant.members.first s.accounts)

-- what stands on generator g's account
abbrev pub account_answer : ℕ → State → Amounts
account_answer g s = record { money = (slice_index_or s.accounts g no_account).money; energy = (slice_index_or s.accounts g no_account).energy }
