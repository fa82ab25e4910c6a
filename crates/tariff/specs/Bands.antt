-- The banded tariffs.
use Rattle.std.specs.Prelude.{ℕ, ◌+◌, ◌-◌, ◌*◌, ℤ, pos}
use Rattle.tariff.specs.Charges.{magnitude, between, nearest}
use Rattle.tariff.specs.declared.banded.Banded.{Banded}
use Rattle.tariff.specs.declared.banded.Banded.TheVariants.{From10, From15}
use Rattle.tariff.specs.declared.banded.Edges.{Edges}
use Rattle.tariff.specs.declared.query.Query.{Query}

-- The percentages of the capacity at which the bands begin.
abbrev pub edges_of : Banded → Edges
edges_of From10 = record { first = 10; second = 20; third = 30 }
edges_of From15 = record { first = 15; second = 25; third = 35 }

abbrev pub code_of_bands : Banded → ℕ
code_of_bands From10 = 10
code_of_bands From15 = 15

-- A hundred times the deviation, to compare with a percentage times the capacity.
abbrev pub error_of : Query → ℕ
error_of q = 100 * magnitude q

-- 50, 100 and 150 paise for a kWh of the three bands. A kW of a block is a quarter of a kWh, and the bands are in hundredths of a kW.
abbrev pub priced : ℕ → ℕ → ℕ → ℕ
priced low middle high = nearest (50 * low + 100 * middle + 150 * high) 400

-- The charge for an error d: what of it lies in each band.
abbrev pub charge_in_bands : Edges → ℕ → ℕ → ℕ
charge_in_bands e c d =
    priced (between d (e.first * c) (e.second * c)) (between d (e.second * c) (e.third * c)) (d - e.third * c)

abbrev pub banded : Edges → Query → ℕ
banded e q = charge_in_bands e q.capacity (error_of q)

-- The charge by the bands of a tariff.
abbrev pub banded_charge : Banded → Query → ℤ
banded_charge t q = pos (banded (edges_of t) q)
