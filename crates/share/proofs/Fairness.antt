-- The shares of an amount add up to it, and each is close to its proportion.
use Rattle.std.proofs.Common.{◌≡◌, ℕ, zero, suc, ◌+◌, ◌-◌, ◌*◌, ◌/◌, ◌<◌, ◌≤◌, List, [], ◌∷◌, length, get_or, take, ℤ, pos, negsuc, ◌-ℤ◌, ◌*ℤ◌, neg_ℤ, nat_abs, sum, sym, refl, ap, ◌∙◌, inl, inr, add-zero, add_assoc, add-mul, mul-zero, le-div_iff_mul-le, zero-add, zero-mul, mul-add, div-mul-le_self, mul-div_cancel, add-one, arith, take_all}
use Rattle.share.proofs.Parts.{quotient_within}
use Rattle.share.specs.Shares.{part, shares_from, shares, together, Fair}
use Rattle.std.proofs.lemmas.List.{get_or_past}
use Rattle.std.proofs.lemmas.Int.{ints}
use Rattle.std.proofs.lemmas.List.Sums.{sum_by-cons, sum_by-take-le}
use Rattle.std.proofs.lemmas.Bool.{cases_lt}
use native.Mathlib.Nat.{zero-div, lt-div-mul-add}

pub part_all : (m : ℤ) (w : ℕ) → 0 < w → part m w w ≡ m
part_all (pos m) w h = ap pos (mul-div_cancel m h)
part_all (negsuc m) w h = ap (λ n. neg_ℤ (pos n)) (mul-div_cancel (suc m) h)

pub part_none : (m : ℤ) (w : ℕ) → part m 0 w ≡ pos 0
part_none (pos m) w = rw (mul-zero, zero-div)
part_none (negsuc m) w = rw (mul-zero, zero-div)

-- the first k shares together, of weights that come after others of the sum s
front_from : (m : ℤ) (w s : ℕ) (xs : List ℕ) (k : ℕ) → together (take k (shares_from m w s xs)) ≡ part m (s + sum (take k xs)) w -ℤ part m s w
front_from m w s xs zero = rw add-zero (omega (arith, ints))
front_from m w s [] (suc k) = rw add-zero (omega (arith, ints))
front_from m w s (x ∷ xs) (suc k) =
    let rest = front_from m w (s + x) xs k in
    let same : part m (s + x + sum (take k xs)) w ≡ part m (s + sum (x ∷ take k xs)) w = rw (sum_by-cons, add_assoc) in
    omega (arith, ints, rest, same)

pub front : (m : ℤ) (ws : List ℕ) (k : ℕ) → together (take k (shares m ws)) ≡ part m (sum (take k ws)) (sum ws)
front m ws k = front_from m (sum ws) 0 ws k ∙ rw (zero-add, part_none) (omega (arith, ints))

length_from : (m : ℤ) (w s : ℕ) (xs : List ℕ) → length (shares_from m w s xs) ≡ length xs
length_from m w s [] = refl
length_from m w s (x ∷ xs) = ap suc (length_from m w (s + x) xs)

pub length_shares : (m : ℤ) (ws : List ℕ) → length (shares m ws) ≡ length ws
length_shares m ws = length_from m (sum ws) 0 ws

pub whole : (m : ℤ) (ws : List ℕ) → 0 < sum ws → together (shares m ws) ≡ m
whole m ws h =
    let all : take (length ws) (shares m ws) ≡ shares m ws = take_all (length ws) (shares m ws) (rw length_shares (omega arith)) in
    ap together (sym all) ∙ front m ws (length ws) ∙ ap (λ xs. part m (sum xs) (sum ws)) (take_all (length ws) ws (omega arith)) ∙ part_all m (sum ws) h

gap : (a b w : ℕ) → a < b + w → b < a + w → nat_abs (pos a -ℤ pos b) < w
gap a b w p q = omega (arith, ints)

gap_neg : (a b w : ℕ) → a < b + w → b < a + w → nat_abs (neg_ℤ (pos a) -ℤ neg_ℤ (pos b)) < w
gap_neg a b w p q = omega (arith, ints)

mul_neg : (n w : ℕ) → neg_ℤ (pos n) *ℤ pos w ≡ neg_ℤ (pos (n * w))
mul_neg zero w = rw zero-mul
mul_neg (suc n) w = refl

-- of two quotients by w, of a and a + b: how far they are apart
record Apart (a b w : ℕ) : Type 0 where
  by : ℕ
  is : (a + b) / w ≡ by + a / w
  above : by * w < b + w
  below : b < by * w + w

apart : (a b w : ℕ) → 0 < w → Apart a b w
apart a b w h =
    let q = a / w in
    let r = (a + b) / w in
    let up : q ≤ r = (le-div_iff_mul-le h).1 (omega (arith, div-mul-le_self a w)) in
    let is : r ≡ (r - q) + q = omega arith in
    let scaled : r * w ≡ (r - q) * w + q * w = ap (λ n. n * w) is ∙ add-mul (r - q) q w in
    let low = div-mul-le_self a w in
    let high = lt-div-mul-add {a = a} {b = w} h in
    let low' = div-mul-le_self (a + b) w in
    let high' = lt-div-mul-add {a = a + b} {b = w} h in
    record { by = r - q; is = is; above = omega arith; below = omega arith }

-- a part grows with the sum of the weights
pub part_grows : (n s x w : ℕ) → 0 < w → n * s / w ≤ n * (s + x) / w
part_grows n s x w h = let d = apart (n * s) (n * x) w h in rw mul-add (omega (arith, d.is))

-- one share, by its weight x after others of the sum s
close_one : (m : ℤ) (s x w : ℕ) → 0 < w → nat_abs ((part m (s + x) w -ℤ part m s w) *ℤ pos w -ℤ m *ℤ pos x) < w
close_one (pos m) s x w h =
    let d = apart (m * s) (m * x) w h in
    let one : pos (m * (s + x) / w) -ℤ pos (m * s / w) ≡ pos d.by = rw mul-add (omega (arith, ints)) in
    rw one (gap _ _ w d.above d.below)
close_one (negsuc m) s x w h =
    let d = apart (suc m * s) (suc m * x) w h in
    let one : neg_ℤ (pos (suc m * (s + x) / w)) -ℤ neg_ℤ (pos (suc m * s / w)) ≡ neg_ℤ (pos d.by) = rw mul-add (omega (arith, ints)) in
    rw (one, mul_neg) (gap_neg _ _ w d.above d.below)

close_from : (m : ℤ) (w s : ℕ) (xs : List ℕ) (k : ℕ) → 0 < w → k < length xs → nat_abs (get_or (shares_from m w s xs) k (pos 0) *ℤ pos w -ℤ m *ℤ pos (get_or xs k 0)) < w
close_from m w s (x ∷ xs) zero h l = close_one m s x w h
close_from m w s (x ∷ xs) (suc k) h l = close_from m w (s + x) xs k h (omega arith)
close_from m w s [] k h l = omega arith

pub fair : (m : ℤ) (ws : List ℕ) → 0 < sum ws → Fair m ws
fair m ws h = record {
  whole = whole m ws h;
  front = λ k l. front m ws k;
  close = λ k l. close_from m (sum ws) 0 ws k h l;
}

-- one share, by the sums of the weights up to it
share_from : (m : ℤ) (w s : ℕ) (xs : List ℕ) (k : ℕ) → k < length xs → get_or (shares_from m w s xs) k (pos 0) ≡ part m (s + sum (take (suc k) xs)) w -ℤ part m (s + sum (take k xs)) w
share_from m w s [] k h = let none : ⊥ = omega arith in elim none [ ]
share_from m w s (x ∷ xs) zero h = simp (sum_by-cons, add-zero)
share_from m w s (x ∷ xs) (suc k) h =
    share_from m w (s + x) xs k (omega arith) ∙ simp (sum_by-cons, add_assoc)

pub share_at : (m : ℤ) (ws : List ℕ) (k : ℕ) → k < length ws → get_or (shares m ws) k (pos 0) ≡ part m (sum (take (k + 1) ws)) (sum ws) -ℤ part m (sum (take k ws)) (sum ws)
share_at m ws k h = share_from m (sum ws) 0 ws k h ∙ simp (zero-add, add-one)

-- a share is no more than the amount
share_within : (m : ℤ) (s t w : ℕ) → s ≤ w → t ≤ w → nat_abs (part m t w -ℤ part m s w) ≤ nat_abs m
share_within (pos m) s t w h l = omega (arith, ints, quotient_within m s w h, quotient_within m t w l)
share_within (negsuc m) s t w h l = omega (arith, ints, quotient_within (suc m) s w h, quotient_within (suc m) t w l)

pub share_small : (m : ℤ) (ws : List ℕ) (k : ℕ) → nat_abs (get_or (shares m ws) k (pos 0)) ≤ nat_abs m
share_small m ws k =
    elim (cases_lt k (length ws)) [
      | inl h ↦ rw share_at (share_within m _ _ (sum ws) (sum_by-take-le (λ x. x) ws k) (sum_by-take-le (λ x. x) ws (k + 1)))
      | inr h ↦ rw (get_or_past (shares m ws) k (pos 0) (rw length_shares h)) (omega arith)
    ]
