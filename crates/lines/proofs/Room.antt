-- What a chain adds to a vector that has room for all of it.
use Rattle.std.proofs.Common.{◌≡◌, ℕ, ◌<◌, ◌≤◌, List, [], ◌∷◌, ◌++◌, length, Some, Ok, Err, Option, Result, MatchResult, OnErr, sym, ap, ◌∙◌, subst, arith}
use Rattle.std.proofs.lemmas.Iterator.{YieldsList}
use Rattle.std.proofs.lemmas.Iterator.Adapters.{items_from_extend}
use Rattle.std.specs.Iterator.{AlwaysYields, Drains, Yields, YieldsThen}

too_many : {S A : Type 0} (steps : S → Option A → S → Type 0) (s : S) (ys xs : List A) (x : A) (u : S) → AlwaysYields steps (λ y. y) s ys → YieldsThen steps s xs (Some x) u → length xs < length ys
too_many steps s [] [] x u a y = absurd (a x u (subst (λ t. steps t (Some x) u) (sym y.1) y.2))
too_many steps s (z ∷ ys) [] x u a y = omega arith
too_many steps s [] (w ∷ xs) x u a y = absurd (a w y.1.0 y.1.1)
too_many steps s (z ∷ ys) (w ∷ xs) x u a y =
    let rest = too_many steps y.1.0 ys xs x u ((a.1 w y.1.0 y.1.1).1) (y.0, y.1.2, y.2) in
    omega arith

-- all of a chain that gives no more than n items, added to nothing where there is room for n
pub all_added : {T A E : Type 0} {steps : T → Option A → T → Type 0} {all : List A} {s : T} (old new : List A) (n : ℕ) (r : Result (Unit {0}) E)
    → ((it : T) × (xs : List A) × (it ≡ s) × (new ≡ old ++ xs) × MatchResult r (λ _. Drains steps it xs) (λ _. (t : T) × Yields steps it xs t))
    → OnErr r (length new ≡ n)
    → OnErr r ((it : T) × (xs : List A) × (x : A) × (rest : T) × (it ≡ s) × YieldsThen steps it xs (Some x) rest × (new ≡ old ++ xs))
    → YieldsList steps (λ x. x) s all → old ≡ [] → length all ≤ n → new ≡ all
all_added {E = E} {all = all} old new n (Ok u) ran full more road none few = items_from_extend {E = E} {P = λ xs. new ≡ old ++ xs} (Ok u) ran road ∙ ap (λ xs. xs ++ all) none
all_added {steps = steps} {all = all} {s = s} old new n (Err e) ran full more road none few =
    let fewer = too_many steps s all more.1 more.2 more.3 road.runs (subst (λ t. YieldsThen steps t more.1 (Some more.2) more.3) more.4 more.5) in
    let long : length new ≡ length more.1 = ap length (more.6 ∙ ap (λ xs. xs ++ more.1) none) in
    absurd (omega arith)
