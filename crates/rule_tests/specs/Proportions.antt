-- A tariff in proportion to the capacity, and that it keeps the law of a ceiling of 1.
use Rattle.std.specs.Prelude.{ℕ, ◌*◌, ◌/◌, ◌≤◌, ℤ, pos}
use Rattle.std.proofs.Common.{arith}
use Rattle.std.proofs.lemmas.Nat.{mul-le}
use Rattle.tariff.specs.Charges.{magnitude}
use Rattle.tariff.specs.Ranges.{IsInRange}
use Rattle.tariff.specs.declared.query.Query.{Query}
use Rattle.units.specs.declared.limits.TheConstants.{STATION_KW}

-- A paisa for each kW of deviation at the largest capacity that a station can have, and in proportion below it.
abbrev pub in_proportion : Query → ℕ
in_proportion q = magnitude q * q.capacity / STATION_KW

abbrev pub proportional : Query → ℤ
proportional q = pos (in_proportion q)

pub proportional_bounded : (q : Query) → IsInRange q → in_proportion q ≤ 1 * magnitude q
proportional_bounded q r =
    let m = magnitude q in
    let most : m * q.capacity ≤ m * STATION_KW = mul-le m q.capacity m STATION_KW (omega arith) r.capacity in
    omega (arith, most)
