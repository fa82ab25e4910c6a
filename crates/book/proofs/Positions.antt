-- The first element that passes a test, or that there is none.
use Rattle.std.proofs.Common.{◌≡◌, ℕ, ◌<◌, ◌≤◌, Bool, true, false, List, length, get_or, Some, None, sym, ap, ◌∙◌, ⊎_elim, arith}
use Rattle.std.proofs.lemmas.Bool.{cases_lt, cond-false, cond-true, le-ltb, lt-ltb}
use Rattle.std.proofs.lemmas.List.Sums.{fails_before_first, position_or_len_is}
use Rattle.std.proofs.lemmas.Option.{none-some}
use Rattle.std.specs.List.{position, position_or_len}

module _ {X : Type 0} (p : X → Bool) (xs : List X) where
  -- where none passes
  pub nowhere : position p xs ≡ None → (k : ℕ) (d : X) → k < length xs → p (get_or xs k d) ≡ false
  nowhere e k d h = ⊎_elim
      (λ (l : position_or_len p xs < length xs).
      absurd (none-some (position_or_len p xs) (sym e ∙ cond-true _ _ _ (lt-ltb _ _ l))))
      (λ (l : length xs ≤ position_or_len p xs). fails_before_first p xs k d (omega arith))
      (cases_lt (position_or_len p xs) (length xs))

  -- a search that has passed the elements before i
  pub first_at : (i : ℕ) (d : X) → i < length xs → ((k : ℕ) → k < i → p (get_or xs k d) ≡ false) → p (get_or xs i d) ≡ true → position p xs ≡ Some i
  first_at i d h before here =
      let is : position_or_len p xs ≡ i = position_or_len_is p xs i d (omega arith) before (λ l. here) in
      cond-true _ _ _ (lt-ltb (position_or_len p xs) (length xs) (omega arith)) ∙ ap (λ k. Some k) is

  pub none_at : (d : X) → ((k : ℕ) → k < length xs → p (get_or xs k d) ≡ false) → position p xs ≡ None
  none_at d before =
      let is : position_or_len p xs ≡ length xs = position_or_len_is p xs (length xs) d (omega arith) before (λ l. absurd (omega arith)) in
      cond-false _ _ _ (le-ltb (position_or_len p xs) (length xs) (omega arith))
