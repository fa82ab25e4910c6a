-- The values of arguments spell them.
use Rattle.std.proofs.Common.{◌≡◌, ℕ, zero, suc, ◌+◌, ◌<◌, ◌≤◌, true, List, [], ◌∷◌, map, length, get_or, drop, decimal, sym, refl, ap, ◌∙◌, subst, add-zero, one-add, arith}
use lib.ListN.{length-map}
use Rattle.std.specs.List.{AllByRecursion, position_or_len}
use Rattle.grammar.specs.Calls.{argument, Held, Small, read_on, pieces, value}
use Rattle.grammar.specs.Grammar.{Numeral, Numbers, spaced, Arg, number, list, SoundArg}
use Rattle.grammar.specs.declared.line.TheConstants.{MOST_NUMBERS}
use Rattle.grammar.specs.Laws.{value_sort}
use Rattle.grammar.specs.Reads.{arg_sort}
use Rattle.grammar.proofs.Canon.{pieces_spaced}
use Rattle.lines.proofs.Figures.{small_value, written_back}
use Rattle.lines.specs.Arguments.{call_values, first_list, is_list, said_at, values_of, with_list}
use Rattle.tokens.specs.declared.token.Part.{Part}
use Rattle.tokens.specs.declared.token.Part.TheVariants.{Word as Lettered, Number as Figures, List as Listed}
use Rattle.units.specs.Calls.{Value, one, many, as_sort, fitted, list_in, padded, says, with_values}
use Rattle.units.specs.Heads.{calls, sorts}
use Rattle.units.specs.declared.call.TheConstants.{MOST_ARGUMENTS}
use Rattle.units.specs.declared.head.Head.{Head}
use Rattle.units.specs.declared.head.Head.TheVariants as head
use Rattle.units.specs.declared.head.Sort.{Sort}
use Rattle.units.specs.declared.head.Sort.TheVariants.{Number as Single, List as Several}

-- each argument is read back as it is spelled

each_back : (ns : List (List ℕ)) → AllByRecursion Numeral ns → map decimal (map (read_on 0) ns) ≡ ns
each_back [] a = refl
each_back (n ∷ ns) a = λ i. written_back n a.0 i ∷ each_back ns a.1 i

each_small : (ns : List (List ℕ)) → AllByRecursion Numeral ns → AllByRecursion Small (map (read_on 0) ns)
each_small [] a = tt
each_small (n ∷ ns) a = (small_value n a.0, each_small ns a.1)

record Back (v : Value) (x : Arg) : Type 0 where
  spells : argument v ≡ x
  held : Held v

list_back : (bs : List ℕ) → Numbers MOST_NUMBERS bs → Back (many (map (read_on 0) (pieces [] bs))) (list bs)
list_back bs h = from h.each h.sound h.some h.few h.bytes
  where
    from : (ns : List (List ℕ)) → AllByRecursion Numeral ns → 1 ≤ length ns → length ns ≤ MOST_NUMBERS → bs ≡ spaced ns → Back (many (map (read_on 0) (pieces [] bs))) (list bs)
    from [] a s f e = absurd (omega arith)
    from (n ∷ ns) a s f e =
        let B : List ℕ → Type 0 = λ l. Back (many (map (read_on 0) (pieces [] l))) (list l) in
        let C : List (List ℕ) → Type 0 = λ l. Back (many (map (read_on 0) l)) (list (spaced (n ∷ ns))) in
        subst B (sym e) (subst C (sym (pieces_spaced n ns a)) (record {
          spells = ap (λ l. list (spaced l)) (each_back (n ∷ ns) a);
          held = (omega (arith, length-map (n ∷ ns) (read_on 0)), omega (arith, length-map (n ∷ ns) (read_on 0)), each_small (n ∷ ns) a);
        }))

-- the values of sound arguments spell them
pub record Spells (vs : List Value) (xs : List Arg) : Type 0 where
  pub spells : map argument vs ≡ xs
  pub held : AllByRecursion Held vs

pub spells : (xs : List Arg) → AllByRecursion SoundArg xs → Spells (map value xs) xs
spells [] a = record { spells = refl; held = tt }
spells (number ds ∷ xs) a =
    let more = spells xs a.1 in
    record { spells = λ j. number (written_back ds a.0 j) ∷ more.spells j; held = (small_value ds a.0, more.held) }
spells (list bs ∷ xs) a =
    let here = list_back bs a.0 in
    let more = spells xs a.1 in
    record { spells = λ j. here.spells j ∷ more.spells j; held = (here.held, more.held) }

-- values of the sorts that are wanted fit as they are

as_is : (s : Sort) (v : Value) → value_sort v ≡ s → as_sort s v ≡ v
as_is Single (one n) e = refl
as_is Several (one n) e = let z : ◌≡◌ {A = ℕ} 0 1 = cc in absurd (omega arith)
as_is Single (many ns) e = let z : ◌≡◌ {A = ℕ} 0 1 = cc in absurd (omega arith)
as_is Several (many ns) e = refl

fits_from : (ss : List Sort) (all vs : List Value) (i : ℕ) → ((k : ℕ) → k < length vs → get_or all (i + k) (one 0) ≡ get_or vs k (one 0)) → map value_sort vs ≡ ss → fitted ss all i ≡ vs
fits_from [] all [] i at e = refl
fits_from [] all (v ∷ vs) i at e = absurd (omega (arith, ap length e))
fits_from (s ∷ ss) all [] i at e = absurd (omega (arith, ap length e))
fits_from (s ∷ ss) all (v ∷ vs) i at e =
    let here : get_or all i (one 0) ≡ v = ap (λ j. get_or all j (one 0)) (sym (add-zero i)) ∙ at 0 (omega arith) in
    let same : as_sort s (get_or all i (one 0)) ≡ v = ap (as_sort s) here ∙ as_is s v (ap (λ l. get_or l 0 s) e) in
    let more = fits_from ss all vs (i + 1) later (ap (drop 1) e) in
    λ j. same j ∷ more j
  where
    later : (k : ℕ) → k < length vs → get_or all (i + 1 + k) (one 0) ≡ get_or vs k (one 0)
    later k h = let j : i + 1 + k ≡ i + suc k = omega arith in ap (λ j. get_or all j (one 0)) j ∙ at (suc k) (omega arith)

pub fits : (ss : List Sort) (vs : List Value) → map value_sort vs ≡ ss → fitted ss vs 0 ≡ vs
fits ss vs e = fits_from ss vs vs 0 (λ k h. let same : 0 + k ≡ k = omega arith in ap (λ j. get_or vs j (one 0)) same) e

pub sorts_of_values : (xs : List Arg) → map value_sort (map value xs) ≡ map arg_sort xs
sorts_of_values [] = refl
sorts_of_values (number ds ∷ xs) = ap (λ l. Single ∷ l) (sorts_of_values xs)
sorts_of_values (list bs ∷ xs) = ap (λ l. Several ∷ l) (sorts_of_values xs)

-- no head takes more arguments than there are places
pub few_sorts : (h : Head) → length (sorts h) ≤ MOST_ARGUMENTS
few_sorts head.Open = omega arith
few_sorts _ = omega arith

-- no call has more than one list

abbrev lists : List Sort → ℕ
lists [] = 0
lists (Single ∷ ss) = lists ss
lists (Several ∷ ss) = suc (lists ss)

one_list : (h : Head) → calls h ≡ true → lists (sorts h) ≤ 1
one_list head.Open e = absurd cc
one_list _ e = omega arith

-- so the first list is the only one

without_lists : (ns : List ℕ) (vs : List Value) → lists (map value_sort vs) ≡ 0 → map (with_list ns) vs ≡ vs
without_lists ns [] e = refl
without_lists ns (one n ∷ vs) e = ap (λ l. one n ∷ l) (without_lists ns vs e)
without_lists ns (many ms ∷ vs) e = absurd (omega arith)

with_one_list : (vs : List Value) → lists (map value_sort vs) ≤ 1 → call_values vs ≡ vs
with_one_list [] h = refl
with_one_list (one n ∷ vs) h = ap (λ l. one n ∷ l) (with_one_list vs h)
with_one_list (many ns ∷ vs) h = ap (λ l. many ns ∷ l) (without_lists ns vs (omega arith))

padded_at : (n : ℕ) (vs : List Value) (k : ℕ) → k < n → get_or (padded n vs) k (one 0) ≡ get_or vs k (one 0)
padded_at zero vs k h = absurd (omega arith)
padded_at (suc n) [] zero h = refl
padded_at (suc n) [] (suc k) h = padded_at n [] k (omega arith)
padded_at (suc n) (v ∷ vs) zero h = refl
padded_at (suc n) (v ∷ vs) (suc k) h = padded_at n vs k (omega arith)

-- a call has room for all of its arguments
pub enough : (h : Head) (vs : List Value) → calls h ≡ true → map value_sort vs ≡ sorts h → with_values h (padded MOST_ARGUMENTS (call_values vs)) ≡ with_values h vs
enough h vs c e =
    let same : call_values vs ≡ vs = with_one_list vs (subst (λ ss. lists ss ≤ 1) (sym e) (one_list h c)) in
    let few : length vs ≤ MOST_ARGUMENTS = omega (arith, few_sorts h, ap length e, length-map vs value_sort) in
    let cut : fitted (sorts h) (padded MOST_ARGUMENTS vs) 0 ≡ vs = fits_from (sorts h) (padded MOST_ARGUMENTS vs) vs 0 (λ k lt. let same : 0 + k ≡ k = omega arith in ap (λ j. get_or (padded MOST_ARGUMENTS vs) j (one 0)) same ∙ padded_at MOST_ARGUMENTS vs k (omega arith)) e in
    ap (λ l. with_values h (padded MOST_ARGUMENTS l)) same ∙ ap (says h) (cut ∙ sym (fits (sorts h) vs e))

pub how_many : (xs : List Arg) (ss : List Sort) → map arg_sort xs ≡ ss → length xs ≡ length ss
how_many xs ss e = sym (length-map xs arg_sort) ∙ ap length e

-- what the argument at a place says
pub value_at : (xs : List Arg) (i : ℕ) → value (get_or xs i (number [])) ≡ get_or (map value xs) i (one 0)
value_at [] i = refl
value_at (x ∷ xs) zero = refl
value_at (x ∷ xs) (suc i) = value_at xs i

-- where the first list is

pub first_list_at : (ps : List Part) → first_list (values_of ps) ≡ list_in (said_at ps (position_or_len is_list ps))
first_list_at [] = refl
first_list_at (Lettered letters ∷ ps) = rw one-add (first_list_at ps)
first_list_at (Figures digits ∷ ps) = rw one-add (first_list_at ps)
first_list_at (Listed numbers ∷ ps) = refl

pub no_list : (ps : List Part) → length ps ≤ position_or_len is_list ps → first_list (values_of ps) ≡ []
no_list [] h = refl
no_list (Lettered letters ∷ ps) h = no_list ps (omega arith)
no_list (Figures digits ∷ ps) h = no_list ps (omega arith)
no_list (Listed numbers ∷ ps) h = absurd (omega arith)
