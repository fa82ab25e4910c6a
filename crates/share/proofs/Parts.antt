-- `part`, by its magnitude.
use Rattle.std.proofs.Common.{◌≡◌, ℕ, ◌-◌, ◌*◌, ◌/◌, ◌≤◌, ℤ, pos, negsuc, ◌-ℤ◌, mul_comm, mul-le-mul_left, arith}
use Rattle.share.specs.Shares.{under}
use Rattle.std.proofs.lemmas.Int.{ints}
use native.Mathlib.Nat.{div-le_of_le-mul}

-- a part of a magnitude is no more than it
pub quotient_within : (n s w : ℕ) → s ≤ w → n * s / w ≤ n
quotient_within n s w h = div-le_of_le-mul w (omega (arith, mul_comm w n, mul-le-mul_left n h))

-- a difference of magnitudes under one sign
pub under_less : (m : ℤ) (a b : ℕ) → b ≤ a → under m (a - b) ≡ under m a -ℤ under m b
under_less (pos m) a b h = omega (arith, ints)
under_less (negsuc m) a b h = omega (arith, ints)
