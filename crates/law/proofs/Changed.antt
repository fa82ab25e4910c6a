-- A function that is changed at one number.
use Rattle.std.proofs.Common.{◌≡◌, ℕ, eqb, refl}
use Rattle.law.specs.Data.{but}
use Rattle.std.proofs.lemmas.Bool.{cond-false, cond-true, eq-eqb, ne_eqb}

pub but_same : {X : Type 0} (n : ℕ) (v : X) (f : ℕ → X) → but n v f n ≡ v
but_same n v f = cond-true (eqb n n) v (f n) (eq-eqb n n refl)

pub but_other : {X : Type 0} (n : ℕ) (v : X) (f : ℕ → X) (m : ℕ) → (m ≡ n → ⊥) → but n v f m ≡ f m
but_other n v f m h = cond-false (eqb m n) v (f m) (ne_eqb m n h)
