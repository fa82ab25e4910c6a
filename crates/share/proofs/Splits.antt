-- A walk over weights that splits an amount, one share more.
use Rattle.std.proofs.Common.{◌≡◌, ℕ, ◌+◌, ◌-◌, ◌*◌, ◌/◌, ◌<◌, min, List, [], ◌∷◌, ◌++◌, length, get_or, take, ℤ, pos, nat_abs, sum, sym, ap, subst, ◌∙◌, arith}
use Rattle.share.proofs.Fairness.{length_shares, part_grows, share_at}
use Rattle.share.proofs.Parts.{under_less}
use Rattle.share.specs.Shares.{next_share, shares, under}
use Rattle.share.specs.declared.splitter.Splitter.{Splitter}
use Rattle.std.proofs.lemmas.List.{take_more}
use Rattle.std.proofs.lemmas.List.Sums.{sum_by-take-le, sum_by_more}

-- a share by the parts of the magnitude before and after its weight
pub step : (m : ℤ) (n s x t before after : ℕ) → 0 < t → n ≡ nat_abs m → before ≡ n * s / t → after ≡ n * (s + x) / t → under m (after - before) ≡ next_share m t s x
step m n s x t before after some size is next =
    under_less m after before (omega (arith, part_grows n s x t some)) ∙ rw (next, is, size)

-- a splitter of m that has come to the weight i
pub record SplitTo (m : ℤ) (ws : List ℕ) (i : ℕ) (s : Splitter) : Type 0 where
  pub amount : s.amount ≡ m
  pub total : s.total ≡ sum ws
  pub sum_is : s.sum ≡ sum (take i ws)

module _ (m : ℤ) (ws : List ℕ) (i x : ℕ) (of : Splitter) (at : SplitTo m ws i of) (here : i < length ws) (read : x ≡ get_or ws i 0) where
  more : of.sum + x ≡ sum (take (i + 1) ws)
  more = omega (arith, at.sum_is, sum_by_more (λ x. x) ws i 0 here)

  -- no weight passes the total
  whole : min x (of.total - of.sum) ≡ x
  whole = omega (arith, more, at.total, sum_by-take-le (λ x. x) ws (i + 1))

  share_here : next_share of.amount of.total of.sum x ≡ get_or (shares m ws) i (pos 0)
  share_here = rw (more, at.sum_is, at.total, at.amount) (sym (share_at m ws i here))

  pub split_share : next_share of.amount of.total of.sum (min x (of.total - of.sum)) ≡ get_or (shares m ws) i (pos 0)
  split_share = ap (next_share of.amount of.total of.sum) whole ∙ share_here

  pub split_more : (to : Splitter) → to.amount ≡ of.amount → to.total ≡ of.total → to.sum ≡ of.sum + min x (of.total - of.sum) → SplitTo m ws (i + 1) to
  split_more to amount total sum_is = record { amount = amount ∙ at.amount; total = total ∙ at.total; sum_is = sum_is ∙ ap (λ y. of.sum + y) whole ∙ more }

-- the weight x is the i-th
pub record IsWeight (ws : List ℕ) (i x : ℕ) : Type 0 where
  pub here : i < length ws
  pub read : x ≡ get_or ws i 0

pub is_weight : (ws each : List ℕ) (i : ℕ) → each ≡ ws → i < length each → IsWeight ws i (get_or each i 0)
is_weight ws each i same here = record { here = subst (λ xs. i < length xs) same here; read = ap (λ xs. get_or xs i 0) same }

-- the shares of the first i weights, and one more
pub front_more : (m : ℤ) (ws : List ℕ) (i : ℕ) (front back : List ℤ) (share : ℤ) → i < length ws → front ≡ take i (shares m ws) → share ≡ get_or (shares m ws) i (pos 0)
    → back ≡ front ++ (share ∷ []) → back ≡ take (i + 1) (shares m ws)
front_more m ws i front back share here so_far is next =
    next ∙ ap (λ xs. xs ++ (share ∷ [])) so_far ∙ ap (λ z. take i (shares m ws) ++ (z ∷ [])) is ∙ sym (take_more (shares m ws) i (pos 0) (rw length_shares here))
