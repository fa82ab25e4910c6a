-- What the parts of a line spell.
use Rattle.std.specs.Prelude.{◌≡◌, ℕ, Bool, true, false, List, [], ◌∷◌, ◌++◌, take}
use Rattle.grammar.specs.Grammar.{Arg, number, list, SoundArg}
use Rattle.tokens.specs.declared.token.Part.{Part}
use Rattle.tokens.specs.declared.token.Part.TheVariants.{Word, Number, List as Listed}
use Rattle.tokens.specs.declared.token.Token.{Token}

-- A part as an argument. A word is none: it goes as a number of no digits, which no form holds.
abbrev pub arg_of : Part → Arg
arg_of (Word letters) = number []
arg_of (Number digits) = number digits.now
arg_of (Listed numbers) = list numbers.now

-- a number or a list that a form holds
abbrev pub SoundPart : Part → Type 0
SoundPart p = SoundArg (arg_of p)

-- its letters, its digits, or what stands between its brackets
abbrev pub text_of : Part → List ℕ
text_of (Word letters) = letters.now
text_of (Number digits) = digits.now
text_of (Listed numbers) = numbers.now

abbrev pub is_word : Part → Bool
is_word (Word letters) = true
is_word _ = false

-- the bytes that a part takes up in its line
abbrev pub bytes_of : Part → List ℕ
bytes_of (Word letters) = letters.now
bytes_of (Number digits) = digits.now
bytes_of (Listed numbers) = 40 ∷ (numbers.now ++ 41 ∷ [])

-- the token stands in the line at its place, before `rest`
abbrev pub Placed : (line : List ℕ) → Token → (rest : List ℕ) → Type 0
Placed line t rest = take t.place line ++ (bytes_of t.part ++ rest) ≡ line
