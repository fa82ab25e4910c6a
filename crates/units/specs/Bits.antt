-- Sets of the numbers 0 to 127, by the bits of a number.
use Rattle.std.specs.Prelude.{ℕ, zero, suc, ◌+◌, ◌-◌, ◌*◌, ◌/◌, ◌%◌, ◌^◌, Bool, cond, ◌&&◌, Some, None, Option, ◌==◌, bit_or, nat_le}

-- n is in the set
abbrev pub has : ℕ → ℕ → Bool
has bits n = bits / 2 ^ n % 2 == 1

-- the numbers from `from` to `to`
abbrev pub span : ℕ → ℕ → ℕ
span from to = (2 ^ (to - from + 1) - 1) * 2 ^ from

-- the set with the numbers from `from` to `to`, if these run forward and none is above 127
abbrev pub with_span : ℕ → ℕ → ℕ → ℕ
with_span bits from to = cond (nat_le from to && nat_le to 127) (bit_or bits (span from to)) bits

-- how many of the first k numbers are in the set
unfoldable pub count_below : ℕ → ℕ → ℕ
count_below bits zero = 0
count_below bits (suc k) = count_below bits k + cond (has bits k) 1 0

unfoldable pub count_of : ℕ → ℕ
count_of bits = count_below bits 128

-- the least number from n on that is not in the set, looking at k numbers
unfoldable pub absent_from : ℕ → ℕ → ℕ → ℕ
absent_from bits n zero = n
absent_from bits n (suc k) = cond (has bits n) (absent_from bits (n + 1) k) n

-- the least number that is not in the set, or 128
unfoldable pub first_absent_of : ℕ → ℕ
first_absent_of bits = absent_from bits 0 128

-- the largest of the first k numbers that is in the set
unfoldable pub last_below : ℕ → ℕ → Option ℕ
last_below bits zero = None
last_below bits (suc k) = cond (has bits k) (Some k) (last_below bits k)

unfoldable pub last_of : ℕ → Option ℕ
last_of bits = last_below bits 128
