-- The words of a line: numbers, signed amounts and lists, each after a space.
use Rattle.std.specs.Prelude.{ℕ, ◌+◌, ◌*◌, ◌^◌, Bool, false, ◌&&◌, List, [], ◌∷◌, ◌++◌, map, length, decimal, nat_le, nat_lt}
use Rattle.std.specs.List.{list_all, sum_by}
use Rattle.std.specs.Fmt.{signed_decimal}
use Rattle.units.specs.Calls.{Value, one, many}
use Rattle.grammar.specs.Grammar.{spaced}
use Rattle.grammar.specs.declared.line.TheConstants.{MOST_DIGITS, MOST_NUMBERS}
use Rattle.spell.specs.Pages.{bracketed}
use Rattle.spell.specs.declared.words.Word.{Word}
use Rattle.spell.specs.declared.words.Word.TheVariants.{Number, Amount, List as Listed}

abbrev pub list_text : List ℕ → List ℕ
list_text ns = 40 ∷ (spaced (map decimal ns) ++ 41 ∷ [])

abbrev pub text_of : Word → List ℕ
text_of (Number n) = decimal n
text_of (Amount z) = signed_decimal z
text_of (Listed ns) = list_text ns.now

abbrev pub line_text : List ℕ → List Word → List ℕ
line_text head words = bracketed head (map text_of words)

-- how many bytes a word takes at most
abbrev pub room : Word → ℕ
room (Number n) = 20
room (Amount z) = 21
room (Listed ns) = 2 + 21 * length ns.now

abbrev pub rooms : List Word → ℕ
rooms = sum_by (λ w. 1 + room w)

abbrev pub line_room : List ℕ → List Word → ℕ
line_room head words = 2 + (length head + rooms words)

-- a number of no more digits than a form holds
abbrev pub small : ℕ → Bool
small n = nat_lt n (10 ^ MOST_DIGITS)

abbrev pub all_are_small : List ℕ → Bool
all_are_small ns = list_all small ns

-- a value that a form holds: a number of so few digits, or a list of these, not empty and not too long
abbrev pub holds : Value → Bool
holds (one n) = small n
holds (many ns) = nat_le 1 (length ns) && (nat_le (length ns) MOST_NUMBERS && all_are_small ns)

-- a word that a form holds, which no signed amount is
abbrev pub held_word : Word → Bool
held_word (Number n) = holds (one n)
held_word (Amount z) = false
held_word (Listed ns) = holds (many ns.now)
