-- A station's day: its figures of each block, and what each generator gets of the 96 blocks.
use Rattle.std.specs.Prelude.{◌≡◌, ℕ, zero, suc, ◌+◌, ◌-◌, ◌<◌, ◌≤◌, Bool, cond, ◌&&◌, List, [], ◌∷◌, length, ℤ, pos, ◌+ℤ◌, nat_le, nat_lt, slice_index_or}
use Rattle.posting.specs.Amounts.{no_amounts, opened_account, with_amounts}
use Rattle.share.specs.Rules.{Rules}
use Rattle.posting.specs.Sheets.{Sheet, installed_of, loads_at, query_of, sheet_of}
use Rattle.posting.specs.declared.account.Account.{Account}
use Rattle.posting.specs.declared.day.Day.{Day}
use Rattle.posting.specs.declared.day.DaySums.{DaySums}
use Rattle.posting.specs.declared.members.Members.{Members}
use Rattle.posting.specs.declared.pages.Pages.{Pages}
use Rattle.share.specs.Keys.{weights}
use Rattle.share.specs.Shares.{Fair, shares}
use Rattle.share.specs.declared.amounts.Amounts.{Amounts}
use Rattle.share.specs.declared.key.Key as key
use Rattle.share.specs.declared.load.Load.{Load}
use Rattle.tariff.specs.Charges.{deviation_of}
use Rattle.tariff.specs.declared.query.Query.{Query}
use Rattle.tariff.specs.declared.tariff.Tariff as tariff
use Rattle.units.specs.declared.limits.TheConstants.{BLOCKS}

-- what a station's day comes from: by which rules, from which pages, of which station and generators
pub record StationDay : Type 0 where
  pub rules : Rules
  pub sheet : Sheet
  pub station : ℕ
  pub members : Members

-- a day in the code, where generators are weighed so
abbrev pub day_weighed : {T K : Type 0} → tariff.Ghosts T → (Load → Load → ℕ) → Day T K → StationDay
day_weighed prices weighs d = record {
  rules = record { charge = prices.charge_of d.tariff.now; weighs = weighs };
  sheet = sheet_of d.pages.now;
  station = d.station;
  members = d.members;
}

-- a day in the code, by its key
abbrev pub the_day : {T K : Type 0} → tariff.Ghosts T → key.Ghosts K → Day T K → StationDay
the_day prices keys d = day_weighed prices keys.weighs d

-- the day of station t on these pages, where these are its generators
abbrev pub day_on : Rules → Pages → ℕ → Members → StationDay
day_on rules p t m = record { rules = rules; sheet = sheet_of p; station = t; members = m }

-- what its tariff is asked in the block b
abbrev pub query_at : StationDay → ℕ → Query
query_at d b = query_of d.sheet.schedules d.station b (loads_at d.sheet d.members b)

-- what the tariff charges for the block b
abbrev pub charge_at : StationDay → ℕ → ℤ
charge_at d b = d.rules.charge (query_at d b)

-- by how much the station deviates from its schedule
abbrev pub deviation_at : StationDay → ℕ → ℤ
deviation_at d b = deviation_of (query_at d b)

-- both
abbrev pub figures_at : StationDay → ℕ → Amounts
figures_at d b = record { money = charge_at d b; energy = deviation_at d b }

-- the weights that split them
abbrev pub weights_at : StationDay → ℕ → List ℕ
weights_at d b = weights d.rules.weighs (loads_at d.sheet d.members b)

-- the share that the k-th generator gets of the charge for the block b
abbrev pub money_share : StationDay → ℕ → ℕ → ℤ
money_share d k b = slice_index_or (shares (charge_at d b) (weights_at d b)) k (pos 0)

-- the share that it gets of the deviation in the block b
abbrev pub energy_share : StationDay → ℕ → ℕ → ℤ
energy_share d k b = slice_index_or (shares (deviation_at d b) (weights_at d b)) k (pos 0)

-- its shares of both
abbrev pub share_at : StationDay → ℕ → ℕ → Amounts
share_at d k b = record { money = money_share d k b; energy = energy_share d k b }

-- the shares of both are fair
abbrev pub FairAt : StationDay → ℕ → Type 0
FairAt d b = Fair (charge_at d b) (weights_at d b) × Fair (deviation_at d b) (weights_at d b)

-- f 0 to f (n - 1) added
unfoldable pub sum_to : (ℕ → ℤ) → ℕ → ℤ
sum_to f zero = pos 0
sum_to f (suc n) = sum_to f n +ℤ f n

-- the charges of the 96 blocks added
abbrev pub standing_charges : StationDay → ℤ
standing_charges d = sum_to (charge_at d) BLOCKS

-- the deviations of the 96 blocks added
abbrev pub day_deviation : StationDay → ℤ
day_deviation d = sum_to (deviation_at d) BLOCKS

-- the shares that the k-th generator gets in the first n blocks, added
abbrev pub shares_to : StationDay → ℕ → ℕ → Amounts
shares_to d k n = record { money = sum_to (money_share d k) n; energy = sum_to (energy_share d k) n }

-- The charges of the first n blocks added, and the shares of each generator, which add up to the charges
-- and to the deviations.
pub record SumsTo (d : StationDay) (n : ℕ) (sums : DaySums) : Type 0 where
  pub members : sums.members ≡ d.members
  pub charges : sums.charges ≡ sum_to (charge_at d) n
  pub each : (k : ℕ) → slice_index_or sums.each k no_amounts ≡ shares_to d k n
  pub money : sum_to (λ k. (slice_index_or sums.each k no_amounts).money) d.members.count
      ≡ sum_to (charge_at d) n
  pub energy : sum_to (λ k. (slice_index_or sums.each k no_amounts).energy) d.members.count
      ≡ sum_to (deviation_at d) n

-- those of the day
abbrev pub SumsOf : StationDay → DaySums → Type 0
SumsOf d sums = SumsTo d BLOCKS sums

-- what stands past the end of a page of accounts
abbrev pub no_account : Account
no_account = opened_account 0

-- an account with the k-th of these sums
abbrev pub with_sums : List Amounts → ℕ → Account → Account
with_sums sums k account = with_amounts (slice_index_or sums k no_amounts) account

-- the account of the k-th generator, once its shares of the 96 blocks are posted
abbrev pub account_after : StationDay → ℕ → Account → Account
account_after d k account = with_amounts (shares_to d k BLOCKS) account

-- whether the number n is one of `count` numbers from `first` on
abbrev pub among : ℕ → ℕ → ℕ → Bool
among first count n = nat_le first n && nat_lt n (first + count)

-- a page, from number n on, with the `count` accounts from `first` on changed by f, and all others as they were
abbrev pub changed_from : ℕ → ℕ → (ℕ → Account → Account) → ℕ → List Account → List Account
changed_from first count f n [] = []
changed_from first count f n (a ∷ rest) = cond (among first count n) (f (n - first) a) a ∷ changed_from first count f (n + 1) rest

abbrev pub changed : ℕ → ℕ → (ℕ → Account → Account) → List Account → List Account
changed first count f accounts = changed_from first count f 0 accounts

-- the page of accounts, once a station's day is posted
abbrev pub posted_accounts : StationDay → List Account → List Account
posted_accounts d accounts = changed d.members.first d.members.count (account_after d) accounts

-- The page once the day is posted. If it goes so far, the station's accounts add up to the standing charges and to the deviations.
pub record Posted (d : StationDay) (old new : List Account) : Type 0 where
  pub accounts : new ≡ posted_accounts d old
  pub money : d.members.first + d.members.count ≤ length old → sum_to (λ k. (slice_index_or new (d.members.first + k) no_account).money) d.members.count ≡ standing_charges d
  pub energy : d.members.first + d.members.count ≤ length old → sum_to (λ k. (slice_index_or new (d.members.first + k) no_account).energy) d.members.count ≡ day_deviation d

-- what is posted does not depend on the money and the energy that stood in the accounts before
abbrev pub Afresh : Type 0
Afresh =
    (d : StationDay) (old other : List Account) → installed_of old ≡ installed_of other
    → (k : ℕ) → k < d.members.count → d.members.first + k < length old
    → slice_index_or (posted_accounts d old) (d.members.first + k) no_account ≡ slice_index_or (posted_accounts d other) (d.members.first + k) no_account
