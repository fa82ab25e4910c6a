-- What a tariff and a key make of the data: charges, shares, standing charges and accounts.
use Rattle.std.specs.Prelude.{ℕ, zero, suc, ◌+◌, List, [], ◌∷◌, length, take, ℤ, pos, sum, if◌then◌else◌, slice_index, slice_index_or}
use Rattle.book.specs.Stations.{is_settled}
use Rattle.law.specs.Data.{Data, Layout}
use Rattle.posting.specs.Days.{sum_to}
use Rattle.share.specs.Rules.{Rules}
use Rattle.share.specs.Keys.{totals, weights}
use Rattle.share.specs.Shares.{shares}
use Rattle.share.specs.declared.amounts.Amounts.{Amounts}
use Rattle.share.specs.declared.load.Load.{Load}
use Rattle.std.specs.Option.{unwrap_or}
use Rattle.tariff.specs.Charges.{deviation_of}
use Rattle.tariff.specs.declared.query.Query.{Query}
use Rattle.units.specs.declared.station.Phase.{Phase}
use Rattle.units.specs.declared.limits.TheConstants.{BLOCKS}

-- how many stations there are
abbrev pub stations_in : Layout → ℕ
stations_in y = length y.counts

-- the number of the first generator of station t: so many generators have the stations before it
abbrev pub first_of : Layout → ℕ → ℕ
first_of y t = sum (take t y.counts)

-- how many generators station t has
abbrev pub count_of : Layout → ℕ → ℕ
count_of y t = slice_index y.counts t

-- The stations that station t is settled with: its money depends on their days alone.
-- Each station is settled by itself.
abbrev pub settled_with : Layout → Data → ℕ → List ℕ
settled_with y d t = t ∷ []

-- f 0 to f (n - 1) added
abbrev pub added : (ℕ → ℕ) → ℕ → ℕ
added f zero = 0
added f (suc n) = added f n + f n

-- Generator g in block b: its reading, which counts as nothing where it is missing, its capacity and
-- its installed power.
abbrev pub load_in : Layout → Data → ℕ → ℕ → Load
load_in y d g b = record {
  actual = unwrap_or (d.reading g b) 0;
  capacity = d.capacity g b;
  installed = slice_index y.installed g;
}

-- the loads in block b of n generators from g on
abbrev pub loads_in : Layout → Data → ℕ → ℕ → ℕ → List Load
loads_in y d b g zero = []
loads_in y d b g (suc n) = load_in y d g b ∷ loads_in y d b (g + 1) n

-- those of the generators of station t
abbrev pub loads_of : Layout → Data → ℕ → ℕ → List Load
loads_of y d t b = loads_in y d b (first_of y t) (count_of y t)

-- What the tariff is asked of station t in block b: the actual and the capacity are sums over its
-- generators.
abbrev pub query_of : Layout → Data → ℕ → ℕ → Query
query_of y d t b = record {
  station = t;
  block = b;
  schedule = d.schedule t b;
  actual = (totals (loads_of y d t b)).actual;
  capacity = (totals (loads_of y d t b)).capacity;
}

-- what station t is charged for block b, and by how much it deviates from its schedule
abbrev pub figures_of : Rules → Layout → Data → ℕ → ℕ → Amounts
figures_of rules y d t b = record {
  money = rules.charge (query_of y d t b);
  energy = deviation_of (query_of y d t b);
}

-- the weights of its generators in the block
abbrev pub weights_of : Rules → Layout → Data → ℕ → ℕ → List ℕ
weights_of rules y d t b = weights rules.weighs (loads_of y d t b)

-- the weight of its k-th generator
abbrev pub weight_of : Rules → Layout → Data → ℕ → ℕ → ℕ → ℕ
weight_of rules y d t k b = slice_index (weights_of rules y d t b) k

-- what an amount, split by the weights, gives its k-th generator
abbrev pub split_of : Rules → Layout → Data → ℕ → ℕ → ℕ → ℤ → ℤ
split_of rules y d t k b amount =
    slice_index_or (shares amount (weights_of rules y d t b)) k (pos 0)

-- what its k-th generator gets of the charge and of the deviation
abbrev pub share_of : Rules → Layout → Data → ℕ → ℕ → ℕ → Amounts
share_of rules y d t k b = record {
  money = split_of rules y d t k b (figures_of rules y d t b).money;
  energy = split_of rules y d t k b (figures_of rules y d t b).energy;
}

-- an amount that stands once a station is settled, and before is nothing
abbrev pub if_settled : Phase → ℤ → ℤ
if_settled p amount = if is_settled p then amount else pos 0

-- the standing charges of station t: the charges of its blocks added
abbrev pub standing : Rules → Layout → Data → ℕ → ℤ
standing rules y d t = if_settled (d.phase t) (sum_to (λ b. (figures_of rules y d t b).money) BLOCKS)

-- the account of its k-th generator: the shares of the blocks added
abbrev pub account_of : Rules → Layout → Data → ℕ → ℕ → Amounts
account_of rules y d t k = record {
  money = if_settled (d.phase t) (sum_to (λ b. (share_of rules y d t k b).money) BLOCKS);
  energy = if_settled (d.phase t) (sum_to (λ b. (share_of rules y d t k b).energy) BLOCKS);
}
