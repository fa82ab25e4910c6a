-- What holds of every run of calls.
use Rattle.std.specs.Prelude.{All, ◌≡◌, ℕ, ◌+◌, ◌<◌, List, length, None, ℤ, pos, ◌+ℤ◌, ◌-ℤ◌, ◌*ℤ◌, sum, unsigned_abs}
use Rattle.book.specs.Calls.{Answer}
use Rattle.book.specs.Opening.{Opened}
use Rattle.book.specs.Questions.{account_answer, charge_answer, charge_refusal, progress_of, share_answer, share_refusal}
use Rattle.book.specs.Runs.{Run}
use Rattle.book.specs.States.{State, generator_presence, no_station, presence, state, station_at}
use Rattle.book.specs.Stations.{due_of}
use Rattle.book.specs.declared.book.Book.{Book}
use Rattle.posting.specs.declared.pages.Pages.{Pages}
use Rattle.law.specs.Data.{Data, Layout, at_opening, data_after, layout_of}
use Rattle.law.specs.Figures.{account_of, added, count_of, figures_of, first_of, settled_with, share_of, standing, stations_in, weight_of, weights_of}
use Rattle.posting.specs.Days.{sum_to}
use Rattle.share.specs.declared.amounts.Amounts.{Amounts}
use Rattle.share.specs.declared.key.Key as key
use Rattle.tariff.specs.declared.tariff.Tariff as tariff
use Rattle.units.specs.declared.call.Call.{Call}
use Rattle.units.specs.declared.call.Opening.{Opening}
use Rattle.units.specs.declared.station.Phase.TheVariants.{Settled}
use Rattle.units.specs.declared.limits.TheConstants.{BLOCKS}

-- These calls, with these answers, led to this book and these pages from a book just opened under the
-- same tariff and key, on pages of any content and length.
pub record Led {T K : Type 0} {prices : tariff.Ghosts T} {keys : key.Ghosts K}
    (o : Opening) (cs : List Call) (rs : List Answer)
    (b : Book T K prices keys) (p : Pages) : Type 0 where
  pub start : Book T K prices keys
  pub before : Pages
  pub begun : Pages
  pub opened : Opened b.tariff b.key o before begun start
  pub run : Run (state start begun) cs rs (state b p)

-- what the calls of a run give
abbrev pub data_of : Opening → List Call → List Answer → Data
data_of o cs rs = data_after cs rs (at_opening (layout_of o))

-- what is answered of station t
pub record StationLaw (y : Layout) (d : Data) (s : State) (t : ℕ) : Type 0 where
  -- questions on it and its statement are answered
  pub there : no_station t s ≡ None
  pub stated : presence t s ≡ None
  -- its phase and its standing charges are those of the data
  pub phase : (progress_of (station_at s t).stage).phase ≡ d.phase t
  pub charges : (station_at s t).balance.charges ≡ standing s.rules y d t
  -- its due is its standing charges and what it drew, less what it paid
  pub due : due_of (station_at s t).balance
      ≡ (standing s.rules y d t +ℤ pos (d.drawn t)) -ℤ pos (d.paid t)

-- the share of its k-th generator in block b
abbrev pub share_told : Layout → State → ℕ → ℕ → ℕ → Amounts
share_told y s t k b = share_answer (first_of y t + k) b s

-- the account of its k-th generator
abbrev pub account_told : Layout → State → ℕ → ℕ → Amounts
account_told y s t k = account_answer (first_of y t + k) s

-- a share lies less than one unit from the exact proportion
abbrev pub Close : ℤ → ℤ → ℕ → ℕ → Type 0
Close share amount weight all =
    unsigned_abs (share *ℤ pos all -ℤ amount *ℤ pos weight) < all

-- block b of the settled station t
pub record BlockLaw (y : Layout) (d : Data) (s : State) (t b : ℕ) : Type 0 where
  -- its charge is answered, and the share of each generator
  pub charged : charge_refusal t b s ≡ None
  pub shared : (k : ℕ) → k < count_of y t → share_refusal (first_of y t + k) b s ≡ None
  -- the charge, the deviation and the shares are those of the data
  pub figures : charge_answer t b s ≡ figures_of s.rules y d t b
  pub split : (k : ℕ) → k < count_of y t → share_told y s t k b ≡ share_of s.rules y d t k b
  -- the shares add up to the charge and to the deviation
  pub money : sum_to (λ k. (share_told y s t k b).money) (count_of y t)
      ≡ (charge_answer t b s).money
  pub energy : sum_to (λ k. (share_told y s t k b).energy) (count_of y t)
      ≡ (charge_answer t b s).energy
  -- and each lies close to its proportion
  pub money_close : (k : ℕ) → k < count_of y t
      → Close (share_told y s t k b).money (charge_answer t b s).money
      (weight_of s.rules y d t k b) (sum (weights_of s.rules y d t b))
  pub energy_close : (k : ℕ) → k < count_of y t
      → Close (share_told y s t k b).energy (charge_answer t b s).energy
      (weight_of s.rules y d t k b) (sum (weights_of s.rules y d t b))

-- the account of the k-th generator of station t
pub record AccountLaw (y : Layout) (d : Data) (s : State) (t k : ℕ) : Type 0 where
  -- it is answered, and is that of the data
  pub answered : generator_presence (first_of y t + k) s ≡ None
  pub account : account_told y s t k ≡ account_of s.rules y d t k
  -- once the station is settled, it is the shares of its blocks added
  pub money : d.phase t ≡ Settled
      → (account_told y s t k).money ≡ sum_to (λ b. (share_told y s t k b).money) BLOCKS
  pub energy : d.phase t ≡ Settled
      → (account_told y s t k).energy ≡ sum_to (λ b. (share_told y s t k b).energy) BLOCKS

pub record Law (y : Layout) (d : Data) (s : State) : Type 0 where
  -- there are as many stations as the opening lists
  pub many : length s.stations ≡ stations_in y
  -- (a) The cash is what was paid less what was drawn, and as a natural number never negative; and
  -- each station owes its standing charges and what it drew, less what it paid.
  pub cash : pos s.cash ≡ pos (added d.paid (stations_in y)) -ℤ pos (added d.drawn (stations_in y))
  pub stations : (t : ℕ) → t < stations_in y → StationLaw y d s t
  -- (b) The charge of each block of a settled station follows from the data, and is split among its
  -- generators with nothing left over; and the account of each generator is its shares added.
  pub blocks : (t b : ℕ) → t < stations_in y → b < BLOCKS → d.phase t ≡ Settled → BlockLaw y d s t b
  pub accounts : (t k : ℕ) → t < stations_in y → k < count_of y t → AccountLaw y d s t k

-- the same data of all stations and generators that there are
pub record SameData (y : Layout) (d e : Data) : Type 0 where
  pub phases : (t : ℕ) → t < stations_in y → d.phase t ≡ e.phase t
  pub schedules : (t b : ℕ) → t < stations_in y → b < BLOCKS → d.schedule t b ≡ e.schedule t b
  pub capacities : (g b : ℕ) → g < sum y.counts → b < BLOCKS → d.capacity g b ≡ e.capacity g b
  pub readings : (g b : ℕ) → g < sum y.counts → b < BLOCKS → d.reading g b ≡ e.reading g b
  pub paid : (t : ℕ) → t < stations_in y → d.paid t ≡ e.paid t
  pub drawn : (t : ℕ) → t < stations_in y → d.drawn t ≡ e.drawn t

-- the same cash, the same due of each station, and the same account of each generator
pub record SameMoney (y : Layout) (s e : State) : Type 0 where
  pub cash : s.cash ≡ e.cash
  pub dues : (t : ℕ) → t < stations_in y → due_of (station_at s t).balance ≡ due_of (station_at e t).balance
  pub accounts : (g : ℕ) → g < sum y.counts → account_answer g s ≡ account_answer g e

-- The same day of station t: its phase, its schedule, and the capacities and readings of its
-- generators.
pub record SameDay (y : Layout) (d e : Data) (t : ℕ) : Type 0 where
  pub phase : d.phase t ≡ e.phase t
  pub schedule : (b : ℕ) → b < BLOCKS → d.schedule t b ≡ e.schedule t b
  pub capacities : (k b : ℕ) → k < count_of y t → b < BLOCKS
      → d.capacity (first_of y t + k) b ≡ e.capacity (first_of y t + k) b
  pub readings : (k b : ℕ) → k < count_of y t → b < BLOCKS
      → d.reading (first_of y t + k) b ≡ e.reading (first_of y t + k) b

-- station t is settled with the same stations, and the day of each of them is the same
pub record SameDays (y : Layout) (d e : Data) (t : ℕ) : Type 0 where
  pub stations : settled_with y d t ≡ settled_with y e t
  pub days : All (SameDay y d e) (settled_with y d t)

-- the same standing charges of station t, and the same account of each of its generators
pub record SameStation (y : Layout) (t : ℕ) (s e : State) : Type 0 where
  pub charges : (station_at s t).balance.charges ≡ (station_at e t).balance.charges
  pub accounts : (k : ℕ) → k < count_of y t → account_told y s t k ≡ account_told y e t k

pub record Lawful {T K : Type 0} {prices : tariff.Ghosts T} {keys : key.Ghosts K}
    (b : Book T K prices keys) (p : Pages) : Type 0 where
  -- (a), (b) Whatever calls led here from a book just opened, the law holds of their data.
  pub law : (o : Opening) (cs : List Call) (rs : List Answer)
      → Led o cs rs b p → Law (layout_of o) (data_of o cs rs) (state b p)
  -- (c) Under the same tariff and key, on books opened with the same kinds, counts and installed
  -- powers, on pages of any content and length, two runs that give the same data, whatever their
  -- calls, lead to the same money.
  pub same : (o q : Opening) (cs ds : List Call) (rs qs : List Answer)
      (b' : Book T K prices keys) (p' : Pages)
      → Led o cs rs b p → Led q ds qs b' p' → b'.tariff ≡ b.tariff → layout_of o ≡ layout_of q
      → SameData (layout_of o) (data_of o cs rs) (data_of q ds qs)
      → SameMoney (layout_of o) (state b p) (state b' p')
  -- (d) And the money of one station, settled or not, is the same where only the days of the stations
  -- that it is settled with are the same.
  pub station : (o q : Opening) (cs ds : List Call) (rs qs : List Answer)
      (b' : Book T K prices keys) (p' : Pages)
      → Led o cs rs b p → Led q ds qs b' p' → b'.tariff ≡ b.tariff → layout_of o ≡ layout_of q
      → (t : ℕ) → t < stations_in (layout_of o)
      → SameDays (layout_of o) (data_of o cs rs) (data_of q ds qs) t
      → SameStation (layout_of o) t (state b p) (state b' p')
