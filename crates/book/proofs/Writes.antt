-- What a page holds after a write to a part of it.
use Rattle.std.proofs.Common.{◌≡◌, ℕ, ◌+◌, ◌-◌, ◌<◌, ◌≤◌, List, ◌++◌, length, get_or, take, drop, replicate, sym, refl, ap, ◌∙◌, subst, arith, length-drop}
use Rattle.book.specs.Lists.{spliced}
use Rattle.std.proofs.lemmas.List.{drop-drop, get_or_append_left, get_or-append_right, get_or-drop, get_or-take, length-append, length-replicate, length-take-le}
use borrow.Rule.Slice.PartMut.{put_mid}
use lib.Seq.{take-append_seam}

-- the slice that was lent is the whole page again
pub back : {X : Type 0} (n : ℕ) (lent rest : List X) {whole : List X} → length lent ≡ n → lent ≡ whole → take n (lent ++ rest) ≡ whole
back n lent rest e same = ap (λ k. take k (lent ++ rest)) (sym e) ∙ take-append_seam lent rest ∙ same

-- a part of a slice that was filled with one value
pub filled : {X : Type 0} (at k n : ℕ) (v : X) (page part : List X) → k ≡ n → at + n ≤ length page → part ≡ replicate (length (take k (drop at page))) v → put_mid at k page part ≡ spliced at (replicate n v) page
filled at k n v page part e room is =
    let many : length (take k (drop at page)) ≡ n = length-take-le k (drop at page) (omega (arith, length-drop at page)) ∙ e in
    let far : at + k ≡ at + length (replicate n v) = omega (arith, e, length-replicate n v) in
    ap (λ xs. take at page ++ (xs ++ drop k (drop at page))) (is ∙ ap (λ m. replicate m v) many)
    ∙ ap (λ xs. take at page ++ (replicate n v ++ xs)) (drop-drop k at page ∙ ap (λ m. drop m page) far)

pub length_spliced : {X : Type 0} (i : ℕ) (vs p : List X) → i + length vs ≤ length p → length (spliced i vs p) ≡ length p
length_spliced i vs p room = omega (arith, length-append (take i p) (vs ++ drop (i + length vs) p), length-append vs (drop (i + length vs) p), length-take-le i p (omega arith), length-drop (i + length vs) p)

-- what stands before the part that was written, in it, and behind it
module _ {X : Type 0} (i : ℕ) (vs p : List X) (d : X) (room : i ≤ length p) where
  pub below : (j : ℕ) → j < i → get_or (spliced i vs p) j d ≡ get_or p j d
  below j h = get_or_append_left (take i p) _ d j (subst (λ (n : ℕ). j < n) (sym (length-take-le i p room)) h) ∙ get_or-take i p j d h

  behind : (j : ℕ) → i ≤ j → get_or (spliced i vs p) j d ≡ get_or (vs ++ drop (i + length vs) p) (j - i) d
  behind j h = get_or-append_right (take i p) _ i j d (length-take-le i p room) h

  pub inside : (j : ℕ) → i ≤ j → j < i + length vs → get_or (spliced i vs p) j d ≡ get_or vs (j - i) d
  inside j h l = behind j h ∙ get_or_append_left vs _ d (j - i) (omega arith)

  pub above : (j : ℕ) → i + length vs ≤ j → get_or (spliced i vs p) j d ≡ get_or p j d
  above j h =
      let place : i + length vs + (j - i - length vs) ≡ j = omega arith in
      behind j (omega arith) ∙ get_or-append_right vs _ (length vs) (j - i) d refl (omega arith) ∙ get_or-drop (i + length vs) p (j - i - length vs) d ∙ ap (λ k. get_or p k d) place
