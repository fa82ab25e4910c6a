-- The numbers of a list are its pieces between spaces.
use Rattle.std.proofs.Common.{◌≡◌, ℕ, ◌<◌, ◌≤◌, Bool, cond, eqb, true, false, List, [], ◌∷◌, ◌++◌, length, get_or, refl, sym, ap, ◌∙◌, subst, append-nil, arith, append_assoc}
use Rattle.std.specs.List.{All, AllByRecursion, slice_split, onto_first}
use Rattle.std.proofs.lemmas.List.Elements.{All-from_recursion}
use Rattle.grammar.specs.Calls.{pieces}
use Rattle.grammar.specs.Grammar.{Numeral, Numbers, spaced}
use Rattle.grammar.specs.declared.line.TheConstants.{MOST_NUMBERS}
use Rattle.grammar.proofs.Canon.{pieces_spaced}

abbrev is_space : ℕ → Bool
is_space b = eqb b 32

-- the bytes before the first piece go to it
abbrev put_before : List ℕ → List (List ℕ) → List (List ℕ)
put_before cur [] = cur ∷ []
put_before cur (p ∷ ps) = (cur ++ p) ∷ ps

onto_is : (cur : List ℕ) (b : ℕ) (ps : List (List ℕ)) → put_before (cur ++ b ∷ []) ps ≡ put_before cur (onto_first b ps)
onto_is cur b [] = refl
onto_is cur b (p ∷ ps) = ap (λ l. l ∷ ps) (append_assoc cur (b ∷ []) p)

none_before : (bs : List ℕ) → put_before [] (slice_split is_space bs) ≡ slice_split is_space bs
none_before [] = refl
none_before (b ∷ bs) =
    elim (is_space b) as (λ t. put_before [] (cond t ([] ∷ slice_split is_space bs) (onto_first b (slice_split is_space bs))) ≡ cond t ([] ∷ slice_split is_space bs) (onto_first b (slice_split is_space bs))) [
      | true ↦ refl
      | false ↦ same (slice_split is_space bs)
    ]
  where
    same : (ps : List (List ℕ)) → put_before [] (onto_first b ps) ≡ onto_first b ps
    same [] = refl
    same (p ∷ ps) = refl

split_is : (cur bs : List ℕ) → put_before cur (slice_split is_space bs) ≡ pieces cur bs
split_is cur [] = ap (λ l. l ∷ []) (append-nil cur)
split_is cur (b ∷ bs) =
    elim (is_space b) as (λ t. put_before cur (cond t ([] ∷ slice_split is_space bs) (onto_first b (slice_split is_space bs))) ≡ cond t (cur ∷ pieces [] bs) (pieces (cur ++ b ∷ []) bs)) [
      | true ↦ (λ i. append-nil cur i ∷ (sym (none_before bs) ∙ split_is [] bs) i)
      | false ↦ sym (onto_is cur b (slice_split is_space bs)) ∙ split_is (cur ++ b ∷ []) bs
    ]

pub pieces_are : (bs : List ℕ) → slice_split is_space bs ≡ pieces [] bs
pieces_are bs = sym (none_before bs) ∙ split_is [] bs

-- each is a number
pub sound_pieces : (bs : List ℕ) → Numbers MOST_NUMBERS bs → All Numeral (pieces [] bs)
sound_pieces bs h = All-from_recursion Numeral _ (each h.each h.sound h.some h.bytes)
  where
    each : (ns : List (List ℕ)) → AllByRecursion Numeral ns → 1 ≤ length ns → bs ≡ spaced ns → AllByRecursion Numeral (pieces [] bs)
    each [] a s e = absurd (omega arith)
    each (n ∷ ns) a s e = subst (AllByRecursion Numeral) (sym (ap (pieces []) e ∙ pieces_spaced n ns a)) a

pub numeral_at : (bs ds : List ℕ) (k : ℕ) → All Numeral (pieces [] bs) → k < length (slice_split is_space bs) → ds ≡ get_or (slice_split is_space bs) k ds → Numeral ds
numeral_at bs ds k h lt e = subst Numeral (sym e) (subst (All Numeral) (sym (pieces_are bs)) h k ds lt)

-- no more than MOST_NUMBERS of them
pub few_pieces : (bs : List ℕ) → Numbers MOST_NUMBERS bs → length (pieces [] bs) ≤ MOST_NUMBERS
few_pieces bs h = few h.each h.sound h.some h.few h.bytes
  where
    few : (ns : List (List ℕ)) → AllByRecursion Numeral ns → 1 ≤ length ns → length ns ≤ MOST_NUMBERS → bs ≡ spaced ns → length (pieces [] bs) ≤ MOST_NUMBERS
    few [] a s l e = absurd (omega arith)
    few (n ∷ ns) a s l e = omega (arith, ap length (ap (pieces []) e ∙ pieces_spaced n ns a))
