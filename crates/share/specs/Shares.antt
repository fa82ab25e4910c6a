-- An amount split over weights, in their order, by its magnitude and its sign.
use Rattle.std.specs.Prelude.{◌≡◌, ℕ, ◌+◌, ◌*◌, ◌/◌, ◌^◌, ◌<◌, ◌≤◌, List, [], ◌∷◌, length, take, ℤ, pos, negsuc, ◌+ℤ◌, ◌-ℤ◌, ◌*ℤ◌, neg_ℤ, sum, slice_index, slice_index_or, unsigned_abs}
use Rattle.units.specs.declared.limits.TheConstants.{GENERATORS}

-- the magnitude n under the sign of m
abbrev pub under : ℤ → ℕ → ℤ
under (pos m) n = pos n
under (negsuc m) n = neg_ℤ (pos n)

-- m × s / w: the magnitude rounded down, under the sign of m
abbrev pub part : ℤ → ℕ → ℕ → ℤ
part m s w = under m (unsigned_abs m * s / w)

-- the share of a weight x that comes after others of the sum s, out of w in all
abbrev pub next_share : ℤ → ℕ → ℕ → ℕ → ℤ
next_share m w s x = part m (s + x) w -ℤ part m s w

-- the shares of weights that come after others of the sum s, out of w in all
abbrev pub shares_from : ℤ → ℕ → ℕ → List ℕ → List ℤ
shares_from m w s [] = []
shares_from m w s (x ∷ xs) = next_share m w s x ∷ shares_from m w (s + x) xs

-- the first k shares together are the part of m for the sum of the first k weights, out of all
abbrev pub shares : ℤ → List ℕ → List ℤ
shares m ws = shares_from m (sum ws) 0 ws

abbrev pub together : List ℤ → ℤ
together [] = pos 0
together (x ∷ xs) = x +ℤ together xs

-- Numbers that an amount is split over: at most GENERATORS. They add up to more than nothing and to
-- less than 2 ^ 64.
pub record AreWeights (ws : List ℕ) : Type 0 where
  pub few : length ws ≤ GENERATORS
  pub some : 0 < sum ws
  pub fit : sum ws < 2 ^ 64

-- what the shares of an amount are, whatever the weights, if they do not all vanish
pub record Fair (m : ℤ) (ws : List ℕ) : Type 0 where
  -- together they are the amount
  pub whole : together (shares m ws) ≡ m
  -- the first k together are the part of the first k weights
  pub front : (k : ℕ) → k ≤ length ws
      → together (take k (shares m ws)) ≡ part m (sum (take k ws)) (sum ws)
  -- each lies less than one unit from its exact proportion
  pub close : (k : ℕ) → k < length ws
      → unsigned_abs (slice_index_or (shares m ws) k (pos 0) *ℤ pos (sum ws)
      -ℤ m *ℤ pos (slice_index ws k)) < sum ws
