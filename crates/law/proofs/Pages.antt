-- What stands on a page after a write to a part of it.
use Rattle.std.proofs.Common.{◌≡◌, ℕ, ◌+◌, ◌-◌, ◌*◌, ◌<◌, ◌≤◌, ◌&&◌, leb, List, length, get_or, replicate, sym, ap, ◌∙◌, ⊎_elim, inl, inr, arith}
use Rattle.book.proofs.Writes.{above, below, inside}
use Rattle.book.specs.Calls.{first_revised}
use Rattle.book.specs.Lists.{entry, spliced}
use Rattle.law.proofs.Changed.{but_other, but_same}
use Rattle.law.specs.Data.{but, but_in, revised_from}
use Rattle.std.proofs.lemmas.Bool.{and_from, and_left, and_right, cases_eq, cases_lt, cond-false, cond-true, le-leb, lt-leb}
use Rattle.std.proofs.lemmas.List.{get_or-replicate, length-replicate}
use Rattle.units.specs.declared.limits.TheConstants.{BLOCKS, LAST_NOTICE, REVISION_LEAD}

-- A page with BLOCKS entries for each number holds f; then the entries of t from `from` on are written. So it holds f, but `row` at t.
pub written : {X : Type 0} (d : X) (f : ℕ → ℕ → X) (row : ℕ → X) (p vs : List X) (many t from : ℕ)
    → t < many → BLOCKS * many ≤ length p → from + length vs ≤ BLOCKS
    → ((u b : ℕ) → u < many → b < BLOCKS → get_or p (entry u b) d ≡ f u b)
    → ((b : ℕ) → from ≤ b → b < from + length vs → get_or vs (b - from) d ≡ row b)
    → ((b : ℕ) → b < from → f t b ≡ row b)
    → ((b : ℕ) → from + length vs ≤ b → b < BLOCKS → f t b ≡ row b)
    → (u b : ℕ) → u < many → b < BLOCKS → get_or (spliced (entry t from) vs p) (entry u b) d ≡ but t row f u b
written d f row p vs many t from there room fits old new before after u b h l =
    let i = entry t from in
    let r : i ≤ length p = omega arith in
    elim (cases_eq u t) [
      | inl e ↦
          let same : entry u b ≡ entry t b = omega arith in
          ap (λ k. get_or (spliced i vs p) k d) same
          ∙ ⊎_elim
          (λ (q : b < from). below i vs p d r (entry t b) (omega arith) ∙ old t b there l ∙ before b q)
          (λ (q : from ≤ b). ⊎_elim
          (λ (z : b < from + length vs). inside i vs p d r (entry t b) (omega arith) (omega arith) ∙ ap (λ k. get_or vs k d) (off t b from q) ∙ new b q z)
          (λ (z : from + length vs ≤ b). above i vs p d r (entry t b) (omega arith) ∙ old t b there l ∙ after b z l)
          (cases_lt b (from + length vs)))
          (cases_lt b from)
          ∙ sym (ap (λ k. but t row f k b) e ∙ ap (λ (g : ℕ → _). g b) (but_same t row f))
      | inr ne ↦
          ⊎_elim
          (λ (q : u < t). below i vs p d r (entry u b) (omega arith))
          (λ (q : t ≤ u). above i vs p d r (entry u b) (omega (arith, ne)))
          (cases_lt u t)
          ∙ old u b h l ∙ sym (ap (λ (g : ℕ → _). g b) (but_other t row f u ne))
    ]
  where
    off : (t b from : ℕ) → from ≤ b → entry t b - (entry t from) ≡ b - from
    off t b from q = omega arith

-- the same, of one value in the blocks from `from` to `to`
pub filled : {X : Type 0} (d : X) (f : ℕ → ℕ → X) (p : List X) (v : X) (many t from to : ℕ)
    → t < many → BLOCKS * many ≤ length p → from ≤ to → to < BLOCKS
    → ((u b : ℕ) → u < many → b < BLOCKS → get_or p (entry u b) d ≡ f u b)
    → (u b : ℕ) → u < many → b < BLOCKS → get_or (spliced (entry t from) (replicate (to - from + 1) v) p) (entry u b) d ≡ but t (but_in from to v (f t)) f u b
filled d f p v many t from to there room order last old =
    let long = length-replicate (to - from + 1) v in
    written d f (but_in from to v (f t)) p (replicate (to - from + 1) v) many t from there room (omega (arith, long)) old
    (λ b h l. get_or-replicate (to - from + 1) (b - from) v d (omega (arith, long)) ∙ sym (cond-true (leb from b && leb b to) v (f t b) (and_from _ _ (le-leb from b h) (le-leb b to (omega (arith, long))))))
    (λ b h. sym (cond-false (leb from b && leb b to) v (f t b) (and_left _ _ (lt-leb from b h))))
    (λ b h l. sym (cond-false (leb from b && leb b to) v (f t b) (and_right _ _ (lt-leb b to (omega (arith, long))))))

-- the same, of the values of a revision
pub revised : (f : ℕ → ℕ → ℕ) (p vs : List ℕ) (many t n : ℕ)
    → t < many → BLOCKS * many ≤ length p → n ≤ LAST_NOTICE → length vs ≡ BLOCKS - REVISION_LEAD - n
    → ((u b : ℕ) → u < many → b < BLOCKS → get_or p (entry u b) 0 ≡ f u b)
    → (u b : ℕ) → u < many → b < BLOCKS → get_or (spliced (entry t (first_revised n)) vs p) (entry u b) 0 ≡ but t (revised_from n vs (f t)) f u b
revised f p vs many t n there room low long old =
    written 0 f (revised_from n vs (f t)) p vs many t (first_revised n) there room (omega arith) old
    (λ b h l. sym (cond-true (leb (first_revised n) b) (get_or vs (b - (first_revised n)) 0) (f t b) (le-leb (first_revised n) b h)))
    (λ b h. sym (cond-false (leb (first_revised n) b) (get_or vs (b - (first_revised n)) 0) (f t b) (lt-leb (first_revised n) b h)))
    (λ b h l. absurd (omega arith))
