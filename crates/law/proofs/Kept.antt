-- What the data and the book have in common between calls.
use Rattle.std.proofs.Common.{◌≡◌, ℕ, zero, suc, ◌+◌, ◌*◌, ◌<◌, ◌≤◌, true, List, ◌∷◌, length, get_or, set, sum, None, Option, unwrap_or, is_some, refl, ap, ◌∙◌, arith}
use Rattle.book.specs.Lists.{entry}
use Rattle.book.specs.States.{State, nobody, sheet_at}
use Rattle.book.specs.declared.station.Station.{Station}
use Rattle.book.specs.Stations.{is_settled}
use Rattle.law.proofs.Places.{Within, ends_all}
use Rattle.law.proofs.Same.{Unmoved, same_account, same_by, same_split, same_standing}
use Rattle.law.proofs.Stations.{Stand, each_of}
use Rattle.law.specs.Data.{Data, Layout}
use Rattle.law.specs.Figures.{account_of, added, count_of, figures_of, first_of, load_in, loads_in, loads_of, share_of, standing}
use Rattle.posting.specs.Days.{StationDay, figures_at, no_account, share_at}
use Rattle.share.specs.Rules.{Rules}
use Rattle.posting.specs.Sheets.{Sheet, installed_of, load_at, loads_at, loads_from, schedule_entry_at}
use Rattle.posting.specs.declared.account.Account.{Account}
use Rattle.share.specs.Loads.{nearest_load}
use Rattle.share.specs.declared.amounts.Amounts.{Amounts}
use Rattle.share.specs.declared.load.Load.{Load}
use Rattle.units.specs.declared.station.Phase.{Phase}
use Rattle.units.specs.declared.limits.TheConstants.{BLOCKS, GENERATOR_KW, LEAST_INSTALLED, MOST_INSTALLED, STATION_KW}

-- the used front of a page of schedules holds what is scheduled
pub record Scheduled (many : ℕ) (f : ℕ → ℕ → ℕ) (page : List ℕ) : Type 0 where
  pub room : BLOCKS * many ≤ length page
  pub at : (u b : ℕ) → u < many → b < BLOCKS → get_or page (entry u b) 0 ≡ f u b
  pub low : (u b : ℕ) → u < many → b < BLOCKS → f u b ≤ STATION_KW

pub record Declared (y : Layout) (f : ℕ → ℕ → ℕ) (page : List ℕ) : Type 0 where
  pub room : BLOCKS * sum y.counts ≤ length page
  pub at : (g b : ℕ) → g < sum y.counts → b < BLOCKS → get_or page (entry g b) 0 ≡ f g b
  pub low : (g b : ℕ) → g < sum y.counts → b < BLOCKS → f g b ≤ get_or y.installed g 0

pub record Metered (many : ℕ) (f : ℕ → ℕ → Option ℕ) (page : List (Option ℕ)) : Type 0 where
  pub room : BLOCKS * many ≤ length page
  pub at : (g b : ℕ) → g < many → b < BLOCKS → get_or page (entry g b) None ≡ f g b
  pub low : (g b : ℕ) → g < many → b < BLOCKS → unwrap_or (f g b) 0 ≤ GENERATOR_KW

pub record Powered (y : Layout) (accounts : List Account) : Type 0 where
  pub room : sum y.counts ≤ length accounts
  pub at : (g : ℕ) → g < sum y.counts → get_or (installed_of accounts) g 0 ≡ get_or y.installed g 0
  pub least : (g : ℕ) → g < sum y.counts → LEAST_INSTALLED ≤ get_or y.installed g 0
  pub most : (g : ℕ) → g < sum y.counts → get_or y.installed g 0 ≤ MOST_INSTALLED

-- no reading of a settled station is missing
abbrev pub Whole : Layout → (ℕ → Phase) → (ℕ → ℕ → Option ℕ) → Type 0
Whole y phase reading = (t g b : ℕ) → is_settled (phase t) ≡ true → Within y.counts g t → b < BLOCKS → is_some (reading g b) ≡ true

abbrev pub amounts_in : Account → Amounts
amounts_in a = record { money = a.money; energy = a.energy }

-- the standing charges of each station, and the account of each generator, are those of the data
abbrev pub Charged : Rules → Layout → Data → List Station → Type 0
Charged rules y d ss = (t : ℕ) → t < length y.counts → (get_or ss t nobody).balance.charges ≡ standing rules y d t

abbrev pub Accounted : Rules → Layout → Data → List Account → Type 0
Accounted rules y d accounts = (t k : ℕ) → t < length y.counts → k < count_of y t → amounts_in (get_or accounts (first_of y t + k) no_account) ≡ account_of rules y d t k

pub record Kept (y : Layout) (d : Data) (s : State) : Type 0 where
  pub stand : Stand y.counts d.phase d.drawn d.paid s.stations
  pub cash : s.cash + added d.drawn (length y.counts) ≡ added d.paid (length y.counts)
  pub schedules : Scheduled (length y.counts) d.schedule s.schedules
  pub capacities : Declared y d.capacity s.capacities
  pub readings : Metered (sum y.counts) d.reading s.readings
  pub powers : Powered y s.accounts
  pub whole : Whole y d.phase d.reading
  pub charges : Charged s.rules y d s.stations
  pub accounts : Accounted s.rules y d s.accounts

-- the sheet

same_load : {a b c d e f : ℕ} → a ≡ b → c ≡ d → e ≡ f → ◌≡◌ {A = Load} (record { actual = a; capacity = c; installed = e }) (record { actual = b; capacity = d; installed = f })
same_load p q r = cc

near : (i c a : ℕ) → LEAST_INSTALLED ≤ i → i ≤ MOST_INSTALLED → c ≤ i → a ≤ GENERATOR_KW → nearest_load i c a ≡ record { actual = a; capacity = c; installed = i }
near i c a least most low small = same_load (omega arith) (omega arith) (omega arith)

-- what a sheet says of the generators and stations that there are
pub record Sheeted (y : Layout) (d : Data) (s : Sheet) : Type 0 where
  pub schedule : (t b : ℕ) → t < length y.counts → b < BLOCKS → schedule_entry_at s.schedules t b ≡ d.schedule t b
  pub load : (g b : ℕ) → g < sum y.counts → b < BLOCKS → load_at s g b ≡ load_in y d g b

pub sheeted : (y : Layout) (d : Data) (s : State) → Scheduled (length y.counts) d.schedule s.schedules → Declared y d.capacity s.capacities → Metered (sum y.counts) d.reading s.readings → Powered y s.accounts
    → Sheeted y d (sheet_at s)
sheeted y d s schedules capacities readings powers = record {
  schedule = λ t b h l. let e = schedules.at t b h l in let low = schedules.low t b h l in omega arith;
  load = λ g b h l.
      same_nearest (powers.at g h) (capacities.at g b h l) (ap (λ (o : Option ℕ). unwrap_or o 0) (readings.at g b h l))
      ∙ near (get_or y.installed g 0) (d.capacity g b) (unwrap_or (d.reading g b) 0) (powers.least g h) (powers.most g h) (capacities.low g b h l) (readings.low g b h l);
}
  where
    same_nearest : {i j c k a b : ℕ} → i ≡ j → c ≡ k → a ≡ b → nearest_load i c a ≡ nearest_load j k b
    same_nearest p q r = rw (p, q, r)

module _ (y : Layout) (d : Data) (s : Sheet) (b : ℕ) (at : Sheeted y d s) (h : b < BLOCKS) where
  same_from : (g n : ℕ) → g + n ≤ sum y.counts → loads_from s b g n ≡ loads_in y d b g n
  same_from g zero l = refl
  same_from g (suc n) l =
      ap (λ x. x ∷ loads_from s b (g + 1) n) (at.load g b (omega arith) h)
      ∙ ap (λ xs. load_in y d g b ∷ xs) (same_from (g + 1) n (omega arith))

-- the day is that of a station of the layout
pub record Placed (y : Layout) (d : Data) (day : StationDay) : Type 0 where
  pub sheet : Sheeted y d day.sheet
  pub there : day.station < length y.counts
  pub first : day.members.first ≡ first_of y day.station
  pub count : day.members.count ≡ count_of y day.station

module _ (y : Layout) (d : Data) (day : StationDay) (at : Placed y d day) where
  pub loads_are : (b : ℕ) → b < BLOCKS → loads_at day.sheet day.members b ≡ loads_of y d day.station b
  loads_are b h =
      ap (λ g. loads_from day.sheet b g day.members.count) at.first ∙ ap (loads_from day.sheet b (first_of y day.station)) at.count
      ∙ same_from y d day.sheet b at.sheet h (first_of y day.station) (count_of y day.station) (ends_all y.counts day.station at.there)

  pub figures_are : (b : ℕ) → b < BLOCKS → figures_at day b ≡ figures_of day.rules y d day.station b
  figures_are b h = same_by day.rules day.station b _ _ _ _ (at.sheet.schedule day.station b at.there h) (loads_are b h)

  pub share_is : (k b : ℕ) → b < BLOCKS → share_at day k b ≡ share_of day.rules y d day.station k b
  share_is k b h = same_split day.rules k _ _ _ _ (figures_are b h) (loads_are b h)

-- what stays

pub charges_stay : (rules : Rules) (y : Layout) (d e : Data) (ss : List Station) → ((t : ℕ) → t < length y.counts → Unmoved y d e t) → Charged rules y d ss → Charged rules y e ss
charges_stay rules y d e ss u old t h = old t h ∙ same_standing rules y d e t (u t h)

pub charges_put : (rules : Rules) (y : Layout) (d e : Data) (ss : List Station) (t : ℕ) (x : Station) → t < length ss → t < length y.counts → x.balance.charges ≡ (get_or ss t nobody).balance.charges
    → ((t : ℕ) → t < length y.counts → Unmoved y d e t) → Charged rules y d ss → Charged rules y e (set ss t x)
charges_put rules y d e ss t x h l same u old =
    each_of (λ k z. k < length y.counts → z.balance.charges ≡ standing rules y e k) ss t x h
    (λ m. same ∙ charges_stay rules y d e ss u old t m)
    (λ k ne m. charges_stay rules y d e ss u old k m)

pub accounts_stay : (rules : Rules) (y : Layout) (d e : Data) (accounts : List Account) → ((t : ℕ) → t < length y.counts → Unmoved y d e t)
    → Accounted rules y d accounts → Accounted rules y e accounts
accounts_stay rules y d e accounts u old t k h l = old t k h l ∙ same_account rules y d e t (u t h) k
