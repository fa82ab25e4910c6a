-- The number that digits write, one digit at a time.
use Rattle.std.proofs.Common.{◌≡◌, ℕ, zero, suc, ◌+◌, ◌-◌, ◌*◌, ◌^◌, ◌<◌, ◌≤◌, true, List, [], ◌∷◌, ◌++◌, length, get_or, take, decimal, sym, refl, ap, ◌∙◌, subst, arith, length-append, length-take-le}
use Rattle.std.specs.Int.{is_in_range}
use Rattle.std.specs.List.{fold}
use Rattle.std.proofs.lemmas.List.{take_at, get_or_at}
use Rattle.std.proofs.lemmas.Str.Parse.{digits_value_short}
use Rattle.std.proofs.lemmas.Fmt.{decimal-digits_value}
use Rattle.std.proofs.lemmas.Bool.{and_parts, and_from, leb-true}
use Rattle.grammar.specs.Grammar.{all_within, Numeral}
use Rattle.grammar.specs.declared.line.TheConstants.{MOST_DIGITS}
use Rattle.grammar.specs.Calls.{read_on, Small}
use Rattle.grammar.proofs.Canon.{own}

pub read_on_push : (n : ℕ) (xs : List ℕ) (c : ℕ) → read_on n (xs ++ c ∷ []) ≡ 10 * read_on n xs + (c - 48)
read_on_push n [] c = refl
read_on_push n (x ∷ xs) c = read_on_push (10 * n + (x - 48)) xs c

within_take : (lo hi i : ℕ) (bs : List ℕ) → all_within lo hi bs ≡ true → all_within lo hi (take i bs) ≡ true
within_take lo hi zero bs h = refl
within_take lo hi (suc i) [] h = refl
within_take lo hi (suc i) (b ∷ bs) h = let p = and_parts (is_in_range lo hi b) (all_within lo hi bs) h in and_from _ _ p.0 (within_take lo hi i bs p.1)

digit_at : (bs : List ℕ) (i : ℕ) → all_within 48 57 bs ≡ true → i < length bs → (48 ≤ get_or bs i 0) × (get_or bs i 0 ≤ 57)
digit_at [] i h k = absurd (omega arith)
digit_at (b ∷ bs) zero h k = let p = and_parts _ _ (and_parts (is_in_range 48 57 b) (all_within 48 57 bs) h).0 in (leb-true 48 b p.0, leb-true b 57 p.1)
digit_at (b ∷ bs) (suc i) h k = digit_at bs i (and_parts (is_in_range 48 57 b) (all_within 48 57 bs) h).1 (omega arith)

-- before the last of as many digits as a number has
small_so_far : (ds : List ℕ) (i n : ℕ) → Numeral ds → i < length ds → n ≡ read_on 0 (take i ds) → n < 10 ^ (MOST_DIGITS - 1)
small_so_far ds i n h k e =
    let long = length-take-le i ds (omega arith) in
    subst (λ m. m < 10 ^ (MOST_DIGITS - 1)) (sym e) (digits_value_short own (take i ds) (MOST_DIGITS - 1) (within_take 48 57 i ds h.0) (omega (arith, h.2)))

-- a digit, and the number that those before it write
pub before_digit : (ds front rest : List ℕ) (d n : ℕ) → Numeral ds → ds ≡ front ++ d ∷ rest → n ≡ read_on 0 front → (n < 10 ^ (MOST_DIGITS - 1)) × (48 ≤ d) × (d ≤ 57)
before_digit ds front rest d n h e k =
    let at : length front < length ds = omega (arith, simp length-append at (ap length e)) in
    let first : take (length front) ds ≡ front = ap (take (length front)) e ∙ take_at front (d ∷ rest) _ refl in
    let digit : get_or ds (length front) 0 ≡ d = ap (λ l. get_or l (length front) 0) e ∙ get_or_at front d rest 0 _ refl in
    let q = digit_at ds (length front) h.0 at in
    (small_so_far ds (length front) n h at (k ∙ ap (read_on 0) (sym first)), omega arith, omega arith)

pub folded : (n : ℕ) (ds : List ℕ) → fold (λ n d. 10 * n + (d - 48)) n ds ≡ read_on n ds
folded n [] = refl
folded n (d ∷ ds) = folded (10 * n + (d - 48)) ds

pub small_value : (ds : List ℕ) → Numeral ds → Small (read_on 0 ds)
small_value ds h = digits_value_short own ds MOST_DIGITS h.0 h.2

pub written_back : (ds : List ℕ) → Numeral ds → decimal (read_on 0 ds) ≡ ds
written_back ds h = decimal-digits_value own ds h.0 h.1 h.3 (omega (arith, small_value ds h))
