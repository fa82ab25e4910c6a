-- Lists written place by place.
use Rattle.std.proofs.Common.{◌≡◌, ℕ, ◌+◌, ◌<◌, ◌≤◌, ◌≢◌, List, length, get_or, set, ℤ, ◌∙◌, subst, ⊎_elim, arith}
use Rattle.settle_bench.specs.declared.shares.Shares.{Shares}
use Rattle.std.proofs.lemmas.List.{get_or-set_other, get_or-set_same}
use Rattle.std.proofs.lemmas.Bool.{cases_lt}

pub written : {X : Type 0} (f : ℕ → X) (xs : List X) (i : ℕ) (v d : X) → i < length xs → ((k : ℕ) → k < i → get_or xs k d ≡ f k) → v ≡ f i
    → (k : ℕ) → k < i + 1 → get_or (set xs i v) k d ≡ f k
written f xs i v d h before is k l = ⊎_elim
    (λ (q : k < i). let ne : k ≢ i = λ e. omega arith in get_or-set_other xs i k v d ne ∙ before k q)
    (λ (q : i ≤ k). let e : i ≡ k = omega arith in subst (λ (n : ℕ). get_or (set xs i v) n d ≡ f n) e (get_or-set_same xs i v d h ∙ is))
    (cases_lt k i)

pub same_shares : {a b c d : ℤ} → a ≡ b → c ≡ d → ◌≡◌ {A = Shares} (record { money = a; energy = c }) (record { money = b; energy = d })
same_shares p q = cc
