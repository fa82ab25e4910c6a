-- The table of the banded tariffs, row by row, in place of the parts that lie in each band.
-- An error is a hundred times the deviation, and is compared with a percentage times the capacity, so that no capacity divides.
use Rattle.std.specs.Prelude.{◌≡◌, ℕ, ◌+◌, ◌-◌, ◌*◌, ◌<◌, ◌≤◌, ℤ, pos}
use Rattle.tariff.specs.Bands.{error_of}
use Rattle.tariff.specs.Charges.{nearest}
use Rattle.tariff.specs.declared.banded.Edges.{Edges}
use Rattle.tariff.specs.declared.query.Query.{Query}

pub data Row : Type 0 where
  free : Row
  low : Row
  middle : Row
  high : Row

-- Which errors d a row is for, at the capacity c.
abbrev pub Within : Row → Edges → ℕ → ℕ → Type 0
Within free e c d = d ≤ e.first * c
Within low e c d = (e.first * c < d) × (d ≤ e.second * c)
Within middle e c d = (e.second * c < d) × (d ≤ e.third * c)
Within high e c d = e.third * c < d

-- What a row charges. Four blocks are an hour and an error is in hundredths of a kW, so 400 of it are a kWh; a half paisa is rounded up, once.
abbrev pub row_charge : Row → Edges → ℕ → ℕ → ℕ
row_charge free e c d = 0
row_charge low e c d = nearest (50 * (d - e.first * c)) 400
row_charge middle e c d = nearest (50 * (e.second * c - e.first * c) + 100 * (d - e.second * c)) 400
row_charge high e c d =
    nearest (50 * (e.second * c - e.first * c) + 100 * (e.third * c - e.second * c) + 150 * (d - e.third * c)) 400

-- The error falls into a row, into one only, and z is what that row charges.
pub record Tabled (e : Edges) (q : Query) (z : ℤ) : Type 0 where
  pub covered : (row : Row) × Within row e q.capacity (error_of q)
  pub apart : (r s : Row) → Within r e q.capacity (error_of q) → Within s e q.capacity (error_of q) → r ≡ s
  pub charged : (row : Row) → Within row e q.capacity (error_of q) → z ≡ pos (row_charge row e q.capacity (error_of q))
