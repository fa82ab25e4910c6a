-- No kW costs or earns more than the larger rate.
use Rattle.std.specs.Prelude.{◌≡◌, ℕ, zero, suc, ◌+◌, ◌*◌, ◌/◌, ◌≤◌, ℤ, pos, negsuc, neg_ℤ, unsigned_abs, refl}
use Rattle.std.proofs.lemmas.Nat.{mul-le}
use Rattle.tariff.specs.Charges.{nearest}
use Rattle.tariff.specs.Rates.{at_rates, larger_rate}
use Rattle.std.proofs.Common.{mul_assoc, arith}

unsigned_abs_neg : (n : ℕ) → unsigned_abs (neg_ℤ (pos n)) ≡ n
unsigned_abs_neg zero = refl
unsigned_abs_neg (suc n) = refl

-- k is at least the rate e / 4
below_rate : (e d k : ℕ) → (e + 3) / 4 ≤ k → nearest (e * d) 4 ≤ k * d
below_rate e d k h =
    let m : e * d ≤ 4 * k * d = mul-le e d (4 * k) d (omega arith) (omega arith) in
    omega (arith, m, mul_assoc 4 k d)

-- k is at least the rate 9 g / 40
above_rate : (g d k : ℕ) → (9 * g + 39) / 40 ≤ k → nearest (90 * g * d) 400 ≤ k * d
above_rate g d k h =
    let m : 90 * g * d ≤ 400 * k * d = mul-le (90 * g) d (400 * k) d (omega arith) (omega arith) in
    omega (arith, m, mul_assoc 400 k d)

pub rates_bounded : (e g : ℕ) (z : ℤ) → unsigned_abs (at_rates e g z) ≤ larger_rate e g * unsigned_abs z
rates_bounded e g (negsuc n) = below_rate e (suc n) (larger_rate e g) (omega arith)
rates_bounded e g (pos n) = rw unsigned_abs_neg (above_rate g n (larger_rate e g) (omega arith))
