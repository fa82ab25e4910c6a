-- A call is read back from its spelling.
use Rattle.std.proofs.Common.{◌≡◌, ℕ, ◌^◌, ◌<◌, true, false, eqb, List, [], ◌∷◌, ◌++◌, map, length, decimal, sym, refl, ap, ◌∙◌, ⊎_elim, append_assoc, append-nil, arith, rules}
use lib.ListN.{length-map}
use Rattle.std.specs.Int.{is_in_range}
use Rattle.std.specs.List.{AllByRecursion}
use Rattle.std.proofs.lemmas.Str.Parse.{IsNumeralModel, numerals_by_fold}
use Rattle.std.proofs.lemmas.Fmt.{digits_decimal, digits_value-decimal, length-decimal-le, decimal_nonempty, first_decimal, decimal_digit}
use Rattle.std.proofs.lemmas.Bool.{cases_lt, cond-false, and_parts, ne_eqb, leb-true}
use Rattle.grammar.specs.Grammar.{all_within, Word, Numeral, spaced, SoundArg, Sound}
use Rattle.grammar.specs.declared.line.TheConstants.{MOST_DIGITS}
use Rattle.grammar.specs.Calls.{Small, Held, argument, form, read_on, pieces, value, Canonical}
use Rattle.units.specs.Calls.{Value, one, many, Asked}
use Rattle.grammar.proofs.Reading.{one_form}

pub own : IsNumeralModel (λ ds. all_within 48 57 ds ≡ true) (read_on 0)
own = numerals_by_fold _ (search rules) read_on (search rules)

wide : (n : ℕ) → Small n → n < 2 ^ 64
wide n h = omega arith

pub numeral_of : (n : ℕ) → Small n → Numeral (decimal n)
numeral_of n h = (
  digits_decimal own n (wide n h),
  decimal_nonempty n (wide n h),
  length-decimal-le MOST_DIGITS n (omega arith) h (wide n h),
  λ e. ⊎_elim (λ z. ap length (decimal_digit n (omega arith))) (λ z. absurd (omega (arith, first_decimal n z (wide n h)))) (cases_lt n 1),
)

numerals_of : (ns : List ℕ) → AllByRecursion Small ns → AllByRecursion Numeral (map decimal ns)
numerals_of [] h = tt
numerals_of (n ∷ ns) h = (numeral_of n h.0, numerals_of ns h.1)

pub sound_argument : (v : Value) → Held v → SoundArg (argument v)
sound_argument (one n) h = numeral_of n h
sound_argument (many ns) h = record {
  each = map decimal ns;
  sound = numerals_of ns h.2;
  some = simp length-map h.0;
  few = simp length-map h.1;
  bytes = refl;
}

sound_arguments : (vs : List Value) → AllByRecursion Held vs → AllByRecursion SoundArg (map argument vs)
sound_arguments [] h = tt
sound_arguments (v ∷ vs) h = (sound_argument v h.0, sound_arguments vs h.1)

pub sound_form : (a : Asked) → Word a.head → AllByRecursion Held a.values → Sound (form a)
sound_form a w h = record { head = w; args = sound_arguments a.values h }

-- a list is cut at its spaces

no_space : (b : ℕ) → is_in_range 48 57 b ≡ true → eqb b 32 ≡ false
no_space b h = ne_eqb b 32 (λ e. absurd (omega (arith, leb-true 48 b (and_parts _ _ h).0)))

pieces_digits : (cur ds rest : List ℕ) → all_within 48 57 ds ≡ true → pieces cur (ds ++ rest) ≡ pieces (cur ++ ds) rest
pieces_digits cur [] rest h = ap (λ l. pieces l rest) (sym (append-nil cur))
pieces_digits cur (d ∷ ds) rest h =
    let p = and_parts (is_in_range 48 57 d) (all_within 48 57 ds) h in
    cond-false (eqb d 32) _ _ (no_space d p.0) ∙ pieces_digits (cur ++ d ∷ []) ds rest p.1 ∙ ap (λ l. pieces l rest) (append_assoc cur (d ∷ []) ds)

pub pieces_spaced : (n : List ℕ) (ns : List (List ℕ)) → AllByRecursion Numeral (n ∷ ns) → pieces [] (spaced (n ∷ ns)) ≡ n ∷ ns
pieces_spaced n [] h = ap (pieces []) (sym (append-nil n)) ∙ pieces_digits [] n [] h.0.0
pieces_spaced n (m ∷ ns) h = pieces_digits [] n (32 ∷ spaced (m ∷ ns)) h.0.0 ∙ ap (λ l. n ∷ l) (pieces_spaced m ns h.1)

read_back : (ns : List ℕ) → AllByRecursion Small ns → map (read_on 0) (map decimal ns) ≡ ns
read_back [] h = refl
read_back (n ∷ ns) h = let p = digits_value-decimal own n (wide n h.0) in let q = read_back ns h.1 in cc

pub value_argument : (v : Value) → Held v → value (argument v) ≡ v
value_argument (one n) h = ap one (digits_value-decimal own n (wide n h))
value_argument (many []) h = absurd (omega (arith, h.0))
value_argument (many (n ∷ ns)) h =
    ap (λ l. many (map (read_on 0) l)) (pieces_spaced (decimal n) (map decimal ns) (numerals_of (n ∷ ns) h.2)) ∙ ap many (read_back (n ∷ ns) h.2)

values_back : (vs : List Value) → AllByRecursion Held vs → map value (map argument vs) ≡ vs
values_back [] h = refl
values_back (v ∷ vs) h = let p = value_argument v h.0 in let q = values_back vs h.1 in cc

pub canonical : Canonical
canonical a b wa wb ha hb e =
    let f = one_form (form a) (form b) (sound_form a wa ha) (sound_form b wb hb) e in
    let p = values_back a.values ha in
    let q = values_back b.values hb in
    let r = sym p ∙ ap (λ g. map value g.args) f ∙ q in
    λ i. record { head = (f i).head; values = r i }
