-- The laws of the key by the square.
use Rattle.std.specs.Prelude.{ℕ, ◌*◌, ◌<◌, ◌≤◌, [], ◌∷◌}
use Rattle.rule_tests.specs.Square.{by_square}
use Rattle.share.specs.Keys.{NeverAboveLargest, NeverVanish}
use Rattle.std.proofs.Common.{arith, mul-le-mul_left}
use Rattle.std.proofs.lemmas.Grind.{div_ceil_times}
use Rattle.std.proofs.lemmas.List.Sums.{sum_by-cons, sum-map}
use Rattle.std.specs.Int.{div_ceil}
use Rattle.units.specs.declared.limits.TheConstants.{STATION_KW}

ceil_small : (n : ℕ) → n ≤ STATION_KW → div_ceil (n * n) STATION_KW ≤ n
ceil_small n low =
    let bounds = div_ceil_times (n * n) STATION_KW (omega arith) in
    omega (arith, bounds.1, mul-le-mul_left n low)

ceil_some : (n : ℕ) → 0 < n → 0 < div_ceil (n * n) STATION_KW
ceil_some n some =
    let bounds = div_ceil_times (n * n) STATION_KW (omega arith) in
    let one : n * 1 ≤ n * n = mul-le-mul_left n some in
    omega (arith, bounds.0)

pub square_bounded : NeverAboveLargest by_square
square_bounded own station low all = omega (arith, ceil_small own.installed low.installed)

pub square_alive : NeverVanish by_square
square_alive [] some own all = omega arith
square_alive (l ∷ ls) some own all = rw sum-map (rw sum_by-cons (omega (arith, ceil_some l.installed own.0.some)))
