-- Each call as a computation on the book and its pages: its causes of refusal in the order in which they count,
-- and what it does where none holds.
use Rattle.std.specs.Prelude.{◌≡◌, ℕ, ◌+◌, ◌-◌, List, [], ◌∷◌, replicate, Some, None, Ok, Err, Option, Result, nat_lt, slice_set}
use Rattle.book.specs.Causes.{bad_amount, bad_blocks, high_value, revision_causes}
use Rattle.book.specs.Lists.{entry, spliced}
use Rattle.units.specs.Refusals.{first, when}
use Rattle.book.specs.States.{State, admission, day_at, generator_admission, owner_of, presence, state, station_at}
use Rattle.book.specs.Stations.{available, drawn, filed_on, moved, on_balance, on_stage, paid, revised_in, settled_at, slot_of}
use Rattle.book.specs.declared.book.Book.{Book}
use Rattle.posting.specs.declared.pages.Pages.{Pages}
use Rattle.units.specs.declared.head.Head.TheVariants.{File, Declare, Issue, Revise, Close, Read, Settle, Correct}
use Rattle.book.specs.declared.station.Station.{Station}
use Rattle.book.specs.declared.station.balance.Balance.{Balance}
use Rattle.posting.specs.Days.{posted_accounts, standing_charges}
use Rattle.posting.specs.Missing.{first_missing_of}
use Rattle.posting.specs.Sheets.{installed_power_at}
use Rattle.posting.specs.declared.account.Account.{Account}
use Rattle.posting.specs.declared.place.Place.{Place}
use Rattle.share.specs.declared.key.Key as key
use Rattle.std.specs.Option.{unwrap_or}
use Rattle.units.specs.Bits.{first_absent_of}
use Rattle.units.specs.declared.fault.Fault.{Fault}
use Rattle.units.specs.declared.fault.Fault.TheVariants.{DrawAboveCash, DrawAboveDue, FullCash, MissingReading, Unfiled}
use Rattle.tariff.specs.declared.tariff.Tariff as tariff
use Rattle.units.specs.declared.limits.TheConstants.{BLOCKS, GENERATOR_KW, MOST_CASH, REVISION_LEAD, STATION_KW}

abbrev pub Answer : Type 0
Answer = Result Unit Fault

pub record Outcome : Type 0 where
  pub answer : Answer
  pub after : State

-- a refused call changes nothing
abbrev pub unless : Option Fault → State → State → Outcome
unless None before after = record { answer = Ok tt; after = after }
unless (Some f) before after = record { answer = Err f; after = before }

-- the call answered and left what is computed
pub record Does (o : Outcome) (r : Answer) (s : State) : Type 0 where
  pub answer : r ≡ o.answer
  pub after : s ≡ o.after

-- A call of a book and the pages lent with it: it answered and left what is computed, under the same tariff and key.
pub record Makes {T K : Type 0} {prices : tariff.Ghosts T} {keys : key.Ghosts K} (call : State → Outcome) (b : Book T K prices keys) (p : Pages) (b' : Book T K prices keys) (p' : Pages) (r : Answer) : Type 0 where
  pub does : Does (call (state b p)) r (state b' p')
  pub tariff : b'.tariff ≡ b.tariff
  pub key : b'.key ≡ b.key

-- one part changed

abbrev pub with_station : ℕ → Station → State → State
with_station t x s = record s { stations = slice_set s.stations t x }

abbrev pub with_cash : ℕ → State → State
with_cash cash s = record s { cash = cash }

abbrev pub with_schedules : List ℕ → State → State
with_schedules page s = record s { schedules = page }

abbrev pub with_capacities : List ℕ → State → State
with_capacities page s = record s { capacities = page }

abbrev pub with_readings : List (Option ℕ) → State → State
with_readings page s = record s { readings = page }

abbrev pub with_accounts : List Account → State → State
with_accounts page s = record s { accounts = page }

-- a schedule of kw for the blocks from `from` to `to`
abbrev pub filing : ℕ → ℕ → ℕ → ℕ → State → Outcome
filing t from to kw s = unless
    (first (admission File t s ∷ bad_blocks from to ∷ high_value 0 STATION_KW kw ∷ []))
    s
    (with_schedules (spliced (entry t from) (replicate (to - from + 1) kw) s.schedules)
    (with_station t (on_stage (filed_on from to) (on_stage (moved File) (station_at s t))) s))

-- the schedule is issued once all blocks are filed
abbrev pub unfiled : ℕ → Station → Option Fault
unfiled t x =
    when (nat_lt (first_absent_of x.stage.filed.bits) BLOCKS) (Unfiled t (first_absent_of x.stage.filed.bits))

abbrev pub issuing : ℕ → State → Outcome
issuing t s = unless
    (first (admission Issue t s ∷ unfiled t (station_at s t) ∷ []))
    s
    (with_station t (on_stage (moved Issue) (station_at s t)) s)

-- a revision takes effect from the fourth block on, counting the notice's as the first
abbrev pub first_revised : ℕ → ℕ
first_revised n = n + REVISION_LEAD

-- revision k with notice in block n: the schedule of the blocks from the fourth on
abbrev pub revising : ℕ → ℕ → ℕ → List ℕ → State → Outcome
revising t k n vs s =
    let x = station_at s t in
    unless
    (first (admission Revise t s ∷ revision_causes k n vs x))
    s
    (with_schedules (spliced (entry t (first_revised n)) vs s.schedules)
    (with_station t (on_stage (revised_in (unwrap_or (slot_of x.plant.kind n) 0)) (on_stage (moved Revise) x)) s))

abbrev pub closing : ℕ → State → Outcome
closing t s = unless (admission Close t s) s (with_station t (on_stage (moved Close) (station_at s t)) s)

-- a capacity of kw for the blocks from `from` to `to`, at most the installed power
abbrev pub declaring : ℕ → ℕ → ℕ → ℕ → State → Outcome
declaring g from to kw s = unless
    (first (generator_admission Declare g s ∷ bad_blocks from to ∷ high_value 0 (installed_power_at s.accounts g) kw ∷ []))
    s
    (with_capacities (spliced (entry g from) (replicate (to - from + 1) kw) s.capacities) s)

-- a reading of kw for the blocks from `from` to `to`
abbrev pub metering : ℕ → ℕ → ℕ → ℕ → State → Outcome
metering g from to kw s = unless
    (first (generator_admission Read g s ∷ bad_blocks from to ∷ high_value 0 GENERATOR_KW kw ∷ []))
    s
    (with_readings (spliced (entry g from) (replicate (to - from + 1) (Some kw)) s.readings) s)

-- a reading that the result needs is missing
abbrev pub missing_reading : Option Place → Option Fault
missing_reading None = None
missing_reading (Some p) = Some (MissingReading p.generator p.block)

-- Station t becomes x with the charges of its blocks that its pages give, and its generators' accounts the shares of each.
abbrev pub posted : ℕ → Station → State → State
posted t x s = with_accounts
    (posted_accounts (day_at s t x.plant.members) s.accounts)
    (with_station t (on_balance (settled_at (standing_charges (day_at s t x.plant.members))) x) s)

abbrev pub settling : ℕ → State → Outcome
settling t s =
    let x = station_at s t in
    unless
    (first (admission Settle t s ∷ missing_reading (first_missing_of s.readings None x.plant.members) ∷ []))
    s
    (posted t (on_stage (moved Settle) x) s)

-- the reading of generator g in block b becomes kw, and the station is posted again; that reading alone need not be there before
abbrev pub correcting : ℕ → ℕ → ℕ → State → Outcome
correcting g b kw s =
    let t = owner_of s g in
    let x = station_at s t in
    unless
    (first (
    generator_admission Correct g s
    ∷ bad_blocks b b
    ∷ high_value 0 GENERATOR_KW kw
    ∷ missing_reading (first_missing_of s.readings (Some (record { generator = g; block = b })) x.plant.members)
    ∷ []))
    s
    (posted t (on_stage (moved Correct) x) (with_readings (slice_set s.readings (entry g b) (Some kw)) s))

-- the cash would pass the most that the pool holds
abbrev pub full_cash : ℕ → ℕ → ℕ → Option Fault
full_cash t x cash = when (nat_lt MOST_CASH (cash + x)) (FullCash t cash)

abbrev pub payment : ℕ → ℕ → State → Outcome
payment t x s = unless
    (first (presence t s ∷ bad_amount t x ∷ full_cash t x s.cash ∷ []))
    s
    (with_cash (s.cash + x) (with_station t (on_balance (paid x) (station_at s t)) s))

-- a draw above minus the due, or above the cash
abbrev pub above_due : ℕ → ℕ → Balance → Option Fault
above_due t x balance = when (nat_lt (available balance) x) (DrawAboveDue t (available balance))

abbrev pub above_cash : ℕ → ℕ → ℕ → Option Fault
above_cash t x cash = when (nat_lt cash x) (DrawAboveCash t cash)

abbrev pub drawing : ℕ → ℕ → State → Outcome
drawing t x s = unless
    (first (presence t s ∷ bad_amount t x ∷ above_due t x (station_at s t).balance ∷ above_cash t x s.cash ∷ []))
    s
    (with_cash (s.cash - x) (with_station t (on_balance (drawn x) (station_at s t)) s))
