-- A guessed quotient.
use Rattle.std.proofs.Common.{◌≡◌, ℕ, ◌+◌, ◌-◌, ◌*◌, ◌/◌, ◌<◌, ◌≤◌, arith, div-lt_iff_lt-mul, le-div_iff_mul-le, suc-mul}

-- a multiple that leaves less than the divisor is that of the quotient
pub guessed : (n w q : ℕ) → 0 < w → q * w ≤ n → n - q * w < w → q ≡ n / w
guessed n w q some under near =
    let least : q ≤ n / w = (le-div_iff_mul-le some).1 under in
    let most : n / w < 1 + q = (div-lt_iff_lt-mul some).1 (omega (arith, suc-mul q w)) in
    omega arith
