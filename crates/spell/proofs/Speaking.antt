-- The words of arguments say what the arguments do. Assumes nothing.
use Rattle.std.proofs.Common.{◌≡◌, not, List, [], ◌∷◌, ◌++◌, map, refl, ap, arith}
use lib.ListN.{length-map}
use Rattle.std.specs.List.{flat_map, position_or_len}
use Rattle.std.proofs.lemmas.Bool.Decides.{nat_tests}
use Rattle.std.proofs.lemmas.List.{take-map}
use Rattle.grammar.specs.Calls.{argument, form}
use Rattle.grammar.specs.Grammar.{spelled, spelled_arg}
use Rattle.spell.specs.Causes.{misfit}
use Rattle.spell.specs.Pages.{after_spaces}
use Rattle.spell.specs.Spoken.{word_of}
use Rattle.spell.specs.Words.{held_word, holds, text_of, line_text}
use Rattle.units.specs.Calls.{says, spoken, value_of}
use Rattle.units.specs.Heads.{name}
use Rattle.units.specs.declared.call.Value as given
use Rattle.units.specs.declared.head.Head.{Head}

text_is : (v : given.Value) → text_of (word_of v) ≡ spelled_arg (argument (value_of v))
text_is (given.TheVariants.Number n) = refl
text_is (given.TheVariants.List ns) = refl

holds_is : (v : given.Value) → held_word (word_of v) ≡ holds (value_of v)
holds_is (given.TheVariants.Number n) = refl
holds_is (given.TheVariants.List ns) = refl

texts_are : (vs : List given.Value) → after_spaces (map text_of (map word_of vs)) ≡ flat_map (λ a. 32 ∷ spelled_arg a) (map argument (map value_of vs))
texts_are [] = refl
texts_are (v ∷ vs) = λ i. (32 ∷ text_is v i) ++ texts_are vs i

passing_are : (vs : List given.Value) → position_or_len (λ w. not (held_word w)) (map word_of vs) ≡ position_or_len (λ v. not (holds v)) (map value_of vs)
passing_are [] = refl
passing_are (v ∷ vs) = grind (arith, nat_tests, holds_is v, passing_are vs)

pub misfit_is : (vs : List given.Value) → misfit held_word (map word_of vs) ≡ misfit holds (map value_of vs)
misfit_is vs = grind (arith, nat_tests, passing_are vs, length-map vs word_of, length-map vs value_of)

pub line_is : (h : Head) (vs : List given.Value) → line_text (name h) (map word_of vs) ≡ spelled (form (spoken (says h (map value_of vs))))
line_is h vs = ap (λ l. (40 ∷ (name h ++ l)) ++ 41 ∷ []) (texts_are vs)

-- for `grind`
pub ruleset speaking = (misfit_is, line_is, take-map)
