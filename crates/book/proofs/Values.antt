-- A search for the first value above a limit, value by value.
use Rattle.std.proofs.Common.{◌≡◌, ℕ, ◌<◌, ◌≤◌, true, false, ltb, List, length, get_or, Some, None, sym, ap, ◌∙◌, ⊎_elim}
use Rattle.book.proofs.Positions.{first_at, none_at}
use Rattle.book.specs.Causes.{high_value, high_values}
use Rattle.std.specs.Option.{option_map}
use Rattle.std.proofs.lemmas.Bool.{cond-false, cond-true, cases_Bool, le-ltb}
use Rattle.std.proofs.lemmas.Option.{none-some}
use Rattle.units.specs.declared.fault.Fault.{Fault}
use Rattle.units.specs.declared.fault.Fault.TheVariants.{HighValue}

module _ (limit : ℕ) (vs : List ℕ) where
  -- the value at i is the first
  pub found : (i : ℕ) (f : Fault) → i < length vs → ((k : ℕ) → k < i → get_or vs k 0 ≤ limit) → high_value i limit (get_or vs i 0) ≡ Some f → high_values limit vs ≡ Some f
  found i f h before e = ⊎_elim
      (λ (t : ltb limit (get_or vs i 0) ≡ true).
      ap (option_map (λ k. HighValue k limit)) (first_at (ltb limit) vs i 0 h (λ k l. le-ltb _ _ (before k l)) t)
      ∙ sym (cond-true _ (Some (HighValue i limit)) None t) ∙ e)
      (λ (t : ltb limit (get_or vs i 0) ≡ false).
      absurd (none-some f (sym (cond-false _ (Some (HighValue i limit)) None t) ∙ e)))
      (cases_Bool (ltb limit (get_or vs i 0)))

  -- all values are through
  pub none : ((k : ℕ) → k < length vs → get_or vs k 0 ≤ limit) → high_values limit vs ≡ None
  none before = ap (option_map (λ k. HighValue k limit)) (none_at (ltb limit) vs 0 (λ k l. le-ltb _ _ (before k l)))
