-- What is reported of a full book.
use Rattle.std.specs.Prelude.{◌≡◌, ℕ, ◌+◌, ◌*◌, ◌<◌, List, length, get_or, ℤ, pos, slice_index_or}
use Rattle.book.specs.States.{State, station_at}
use Rattle.book.specs.Stations.{due_of}
use Rattle.posting.specs.Days.{no_account, standing_charges}
use Rattle.posting.specs.Sheets.{Sheet}
use Rattle.posting.specs.declared.members.Members.{Members}
use Rattle.settle_bench.specs.Full.{Placed, day_by, energy_of, money_of}
use Rattle.settle_bench.specs.declared.shares.Shares.{Shares}
use Rattle.units.specs.declared.limits.TheConstants.{GENERATORS, STATIONS}

abbrev pub nothing : Shares
nothing = record { money = pos 0; energy = pos 0 }

-- the dues and accounts of a book, as far as the lists go
pub record Reports (z : State) (dues : List ℤ) (shares : List Shares) : Type 0 where
  pub due : (t : ℕ) → t < length dues → slice_index_or dues t (pos 0) ≡ due_of (station_at z t).balance
  pub share : (g : ℕ) → g < length shares → slice_index_or shares g nothing ≡ record { money = (get_or z.accounts g no_account).money; energy = (get_or z.accounts g no_account).energy }

-- the station t owes the charges of its blocks, and each of its generators has its shares of them
pub record StationSettled (s : Sheet) (dues : List ℤ) (shares : List Shares) (t : ℕ) : Type 0 where
  pub members : Members
  pub placed : Placed t members
  pub due : t < length dues → slice_index_or dues t (pos 0) ≡ standing_charges (day_by s t members)
  pub share : (k : ℕ) → k < GENERATORS → GENERATORS * t + k < length shares → slice_index_or shares (GENERATORS * t + k) nothing ≡ record { money = money_of s t members k; energy = energy_of s t members k }

abbrev pub AllSettled : Sheet → List ℤ → List Shares → Type 0
AllSettled s dues shares = (t : ℕ) → t < STATIONS → StationSettled s dues shares t
