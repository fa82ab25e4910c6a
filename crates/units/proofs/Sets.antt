-- What the operations on bits make of the numbers in a set.
use Rattle.std.proofs.Common.{◌≡◌, ℕ, zero, suc, ◌+◌, ◌-◌, ◌*◌, ◌/◌, ◌%◌, ◌^◌, ◌<◌, ◌≤◌, true, false, cond, ◌&&◌, ◌||◌, eqb, leb, Some, None, Option, sym, refl, ap, ◌∙◌, subst, inl, inr, add-zero, add-suc, pow-suc, zero-add, div-one, arith}
use Rattle.std.proofs.lemmas.Nat.{pow_pos, or_lt, leading_top, shl_whole, shl_below}
use Rattle.std.proofs.lemmas.Bool.{and_parts, cond_both, leb-true, and_from, cases_lt, cond-false, cond-true, le-leb}
use Rattle.units.specs.Bits.{has, span, with_span, count_below, count_of, absent_from, first_absent_of, last_below, last_of}
use lib.Bits.{bit_or}
use Rattle.std.specs.Option.{SomeIff}
use lib.Count.{ones, ones-le, ones_step, ones_in, count_leading_zeros, leading_of_zero, trailing_of_zero}
use Rattle.std.specs.Int.{bit_at, trailing_ones, w128}
use Rattle.std.proofs.lemmas.Bool.Decides.{nat_tests}
use Rattle.std.proofs.lemmas.Nat.Bits.{bit_at_or, bit_at-lt, bit_at_above, bit_at_ones, bit_at-trailing_ones, bit_at_mask_below, bit_at_mask_inside, bit_at_mask_above, ones_shr}
use Rattle.std.proofs.Math.Pow.{high_ones}
use native.Mathlib.Nat.{div-div-eq-div-mul, pow-le-pow_right, div-eq_of_lt, zero-div, div-eq_of_lt-le}

has_or : (a b n : ℕ) → has (bit_or a b) n ≡ (has a n || has b n)
has_or a b n = grind (arith, nat_tests, bit_at_or a b n, bit_at-lt a n, bit_at-lt b n)

-- no number from k on is in a set below 2 ^ k
pub has_past : (bits k n : ℕ) → bits < 2 ^ k → k ≤ n → has bits n ≡ false
has_past bits k n h l = ap (λ z. eqb z 1) (bit_at_above bits k n h l)

-- the numbers of a span
has_span : (from to n : ℕ) → from ≤ to → has (span from to) n ≡ (leb from n && leb n to)
has_span from to n h =
    let mask : span from to ≡ 2 ^ (to + 1) - 2 ^ from = sym (high_ones (to - from + 1) from) ∙ ap (λ j. 2 ^ j - 2 ^ from) (omega arith) in
    ap (λ x. has x n) mask ∙ grind (arith, nat_tests, bit_at_mask_below from (to + 1) n, bit_at_mask_inside from (to + 1) n, bit_at_mask_above from (to + 1) n)

digit_set : (d : ℕ) → d < 2 → cond (eqb d 1) 1 0 ≡ d
digit_set d h = grind (arith, nat_tests)

-- how many: the numbers below k, and the digits from k on
counted : (bits k : ℕ) → ones bits ≡ count_below bits k + ones (bits / 2 ^ k)
unfolding count_below
counted bits zero = sym (zero-add _ ∙ ap ones (div-one bits))
counted bits (suc k) =
    let y = bits / 2 ^ k in
    let half : bits / 2 ^ suc k ≡ y / 2 = ap (λ z. bits / z) (pow-suc 2 k) ∙ sym (div-div-eq-div-mul bits (2 ^ k) 2) in
    let digit : cond (has bits k) 1 0 ≡ y % 2 = digit_set (y % 2) (omega arith) in
    counted bits k ∙ rw half (rw digit (omega (arith, ones_step y)))

pub count_ones_count : (bits : ℕ) → bits < 2 ^ 128 → ones bits ≡ count_of bits
unfolding count_of ones ones_in
count_ones_count bits h =
    let e : bits / 2 ^ 128 ≡ 0 = div-eq_of_lt h in
    counted bits 128 ∙ ap (λ z. count_below bits 128 + ones z) e ∙ add-zero _

-- t ends the search where each number before it is in the set, and t is not, if it is looked at
absent_at : (bits t : ℕ) → ((i : ℕ) → i < t → bit_at bits i ≡ 1) → (n m : ℕ) → n ≤ t → t ≤ n + m → (t < n + m → bit_at bits t ≡ 0) → absent_from bits n m ≡ t
unfolding absent_from
absent_at bits t set n zero from upto clear = omega arith
absent_at bits t set n (suc m) from upto clear = elim (cases_lt n t) [
  | inl l ↦ cond-true _ _ _ (ap (λ z. eqb z 1) (set n l)) ∙ absent_at bits t set (n + 1) m (omega arith) (omega arith) (λ q. clear (omega arith))
  | inr l ↦ let here : n ≡ t = omega arith in cond-false _ _ _ (ap (λ z. eqb (bit_at bits z) 1) here ∙ ap (λ z. eqb z 1) (clear (omega arith))) ∙ here
]

pub trailing_absent : (bits : ℕ) → bits < 2 ^ 128 → trailing_ones w128 bits ≡ first_absent_of bits
unfolding first_absent_of
trailing_absent bits h = elim (cases_lt (bits + 1) (2 ^ 128)) [
  | inl l ↦ let t = bit_at-trailing_ones w128 bits l in sym (absent_at bits _ t.2 0 128 (omega arith) (omega (arith, t.0)) (λ _. t.1))
  | inr l ↦
      let full : bits ≡ 2 ^ 128 - 1 = omega arith in
      let all : (i : ℕ) → i < 128 → bit_at bits i ≡ 1 = λ i q. ap (λ x. bit_at x i) full ∙ bit_at_ones 128 i q in
      ap (trailing_ones w128) full ∙ trailing_of_zero 128 ∙ sym (absent_at bits 128 all 0 128 (omega arith) (omega arith) (λ q. absurd (omega arith)))
]

-- the largest number of a set is j where it lies from 2 ^ j on and below 2 ^ (j + 1)
last_at : (bits j d : ℕ) → 2 ^ j ≤ bits → bits < 2 ^ suc j → last_below bits (suc (j + d)) ≡ Some j
unfolding last_below
last_at bits j zero h l =
    let one : bits / 2 ^ j ≡ 1 = div-eq_of_lt-le (2 ^ j) (omega (arith, h)) (omega (arith, l, pow-suc 2 j)) in
    rw add-zero (ap (λ z. cond (eqb (z % 2) 1) (Some j) (last_below bits j)) one)
last_at bits j (suc d) h l =
    rw add-suc (cond-false (has bits (suc (j + d))) _ _ (has_past bits (suc j) (suc (j + d)) l (omega arith)) ∙ last_at bits j d h l)

last_none : (k : ℕ) → last_below 0 k ≡ None
unfolding last_below
last_none zero = refl
last_none (suc k) = ap (λ z. cond (eqb (z % 2) 1) (Some k) (last_below 0 k)) (zero-div (2 ^ k)) ∙ last_none k

-- what the leading zeros say of the largest number
pub leading_last : (bits : ℕ) (r : Option ℕ) → bits < 2 ^ 128 → SomeIff r (count_leading_zeros 128 bits ≤ 127) (127 - count_leading_zeros 128 bits) → r ≡ last_of bits
unfolding last_of
leading_last zero None h c = sym (last_none 128)
leading_last zero (Some x) h c = absurd (omega (arith, leading_of_zero 128, c.0))
leading_last (suc n) None h c =
    let top = leading_top 128 (suc n) (omega arith) (omega arith) in
    absurd (c (omega (arith, top.1)))
leading_last (suc n) (Some x) h c =
    let top = leading_top 128 (suc n) (omega arith) (omega arith) in
    let j = top.0 in
    let here : x ≡ j = omega (arith, top.1, c.1) in
    let width : suc (j + (127 - j)) ≡ 128 = omega (arith, top.1) in
    ap Some here ∙ sym (last_at (suc n) j (127 - j) top.2 top.3) ∙ ap (last_below (suc n)) width

-- the shifts that make a span lose no bit
pub shifted_span : (from to : ℕ) → from ≤ to → to < 128 → ((2 ^ 128 - 1) / 2 ^ (127 - (to - from)) * 2 ^ from) % 2 ^ 128 ≡ span from to
shifted_span from to h l =
    let m = to - from + 1 in
    let width : 128 - (127 - (to - from)) ≡ m = omega arith in
    let row : (2 ^ 128 - 1) / 2 ^ (127 - (to - from)) ≡ 2 ^ m - 1 = ones_shr 128 (127 - (to - from)) (omega arith) ∙ ap (λ z. 2 ^ z - 1) width in
    ap (λ z. (z * 2 ^ from) % 2 ^ 128) row ∙ shl_whole (2 ^ m - 1) m from 128 (omega (arith, pow_pos m)) (omega arith)

pub grown : (bits from to : ℕ) → from ≤ to → to < 128 → with_span bits from to ≡ bit_or bits (span from to)
grown bits from to h l = cond-true _ _ _ (and_from _ _ (le-leb from to h) (le-leb to 127 (omega arith)))

pub has_with_span : (bits from to k : ℕ) → has (with_span bits from to) k ≡ (has bits k || (leb to 127 && (leb from k && leb k to)))
has_with_span bits from to k =
    cond_both (leb from to && leb to 127) _ _ (λ x. has x k ≡ (has bits k || (leb to 127 && (leb from k && leb k to))))
    (λ t. has_or bits (span from to) k ∙ ap (λ z. has bits k || z) (has_span from to k (leb-true from to (and_parts (leb from to) (leb to 127) t).0) ∙ grind (arith, nat_tests)))
    (λ f. grind (arith, nat_tests))

-- a set of numbers below k that gets more of them
pub with_span_low : (k bits from to : ℕ) → bits < 2 ^ k → to < k → with_span bits from to < 2 ^ k
with_span_low k bits from to low h = cond_both (leb from to && leb to 127) _ _ (λ x. x < 2 ^ k) grows (λ _. low)
  where
    grows : (leb from to && leb to 127) ≡ true → bit_or bits (span from to) < 2 ^ k
    grows t =
        let order : from ≤ to = leb-true from to (and_parts (leb from to) (leb to 127) t).0 in
        let m = to - from + 1 in
        let below : span from to < 2 ^ (m + from) = shl_below (2 ^ m - 1) m from (omega (arith, pow_pos m)) in
        let narrow : m + from ≤ k = omega arith in
        let le : 2 ^ (m + from) ≤ 2 ^ k = pow-le-pow_right {n = 2} (omega arith) {i = m + from} {j = k} narrow in
        or_lt k bits (span from to) low (omega (arith, below, le))

-- a set of numbers below k has at most k of them
pub count_low : (k bits : ℕ) → bits < 2 ^ k → k ≤ 128 → count_of bits ≤ k
count_low k bits low h =
    let wide : 2 ^ k ≤ 2 ^ 128 = pow-le-pow_right {n = 2} (omega arith) {i = k} {j = 128} h in
    subst (λ n. n ≤ k) (count_ones_count bits (omega (arith, low, wide))) (ones-le k bits low)
