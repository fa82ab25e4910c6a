-- Refusals for the first cause that holds.
use Rattle.std.specs.Prelude.{◌≡◌, Bool, cond, List, [], ◌∷◌, Some, None, Option, Result, MatchResult}

-- a cause: the error where the condition holds
abbrev pub when : {E : Type 0} → Bool → E → Option E
when holds e = cond holds (Some e) None

-- the first cause that holds
abbrev pub first : {E : Type 0} → List (Option E) → Option E
first [] = None
first (None ∷ causes) = first causes
first (Some e ∷ causes) = Some e

-- a check that passes exactly where its cause does not hold, and then gives what P says
abbrev pub Checks : {X E : Type 0} → Option E → (X → Type 0) → Result X E → Type 0
Checks cause P r = MatchResult r (λ x. (cause ≡ None) × P x) (λ e. cause ≡ Some e)

-- a check that passes exactly where its cause does not hold, and says no more
abbrev pub Passes : {X E : Type 0} → Option E → Result X E → Type 0
Passes cause r = MatchResult r (λ _. cause ≡ None) (λ e. cause ≡ Some e)
