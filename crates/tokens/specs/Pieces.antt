-- What the readers of a word, a number, a list and an argument say of the bytes before them.
use Rattle.std.specs.Prelude.{◌≡◌, ℕ, ◌+◌, ◌-◌, ◌<◌, ◌≤◌, true, false, ◌&&◌, List, [], ◌∷◌, ◌++◌, length, take, Some, None, Ok, Err, Option, Result, slice_index, slice_index_or}
use Rattle.std.specs.Int.{is_in_range}
use Rattle.grammar.specs.Grammar.{all_within, Word, Numeral, Numbers, spelled_arg, SoundArg, Form}
use Rattle.grammar.specs.Machine.{top, inside, start, need, closed, with_arg, grows, stuck, outcome}
use Rattle.grammar.specs.declared.line.TheConstants.{MOST_NUMBERS}
use Rattle.units.specs.declared.fault.Fault.{Fault}
use Rattle.units.specs.declared.fault.Fault.TheVariants.{NotForm}
use Rattle.tokens.specs.Tokens.{arg_of, bytes_of, is_word, text_of, SoundPart, Placed}
use Rattle.tokens.specs.declared.token.Part.{Part}
use Rattle.tokens.specs.declared.token.Token.{Token}

-- the first n bytes are from lo to hi, and as many as there are, up to `most`
pub record Run (lo hi most : ℕ) (bs : List ℕ) (n : ℕ) : Type 0 where
  pub in_bytes : n ≤ length bs
  pub few : n ≤ most
  pub all : all_within lo hi (take n bs) ≡ true
  pub stops : n < most → is_in_range lo hi (slice_index bs n) ≡ false

-- the number ds stands before rest, and is not longer
pub record Counted (bs ds rest : List ℕ) : Type 0 where
  pub numeral : Numeral ds
  pub parts : bs ≡ ds ++ rest
  pub stops : (is_in_range 48 57 (slice_index rest 0) && grows ds) ≡ false

-- n bytes of numbers, and then a closing bracket
pub record Shut (most : ℕ) (bs : List ℕ) (n : ℕ) : Type 0 where
  pub in_bytes : n < length bs
  pub numbers : Numbers most (take n bs)
  pub bracket : slice_index_or bs n 0 ≡ 41

-- no list goes on past where this is left
abbrev pub NoList : (most : ℕ) → (bs left : List ℕ) → Type 0
NoList most bs left =
    (length left ≤ length bs)
    × ((f : Form) (ns : List (List ℕ)) → length ns + most ≡ MOST_NUMBERS → outcome (need (inside f ns)) bs ≡ stuck (length left))

-- an argument at the front; `closed f` is the form so far
pub record Argued (bs : List ℕ) (p : Part) (rest : List ℕ) : Type 0 where
  pub sound : SoundArg (arg_of p)
  pub parts : bs ≡ spelled_arg (arg_of p) ++ rest
  pub leads : (f : Form) → outcome (need (top f)) bs ≡ outcome (closed (with_arg f (arg_of p))) rest

-- no argument goes on past where this is left
abbrev pub NoArgument : (bs left : List ℕ) → Type 0
NoArgument bs left = (length left ≤ length bs) × ((f : Form) → outcome (need (top f)) bs ≡ stuck (length left))

-- a bracket and a word at the front
pub record Headed (bs w rest : List ℕ) : Type 0 where
  pub word : Word w
  pub parts : bs ≡ 40 ∷ (w ++ rest)
  pub leads : outcome start bs ≡ outcome (closed (record { head = w; args = [] })) rest

-- no bracket and word go on past where this is left
abbrev pub NoHead : (bs left : List ℕ) → Type 0
NoHead bs left = (length left ≤ length bs) × (outcome start bs ≡ stuck (length left))

-- the line is refused at the place where this is left of it
abbrev pub At : (line left : List ℕ) → Fault → Type 0
At line left e = e ≡ NotForm (length line - length left)

-- what a line begins with: a bracket, which is one byte, and the word t
pub record Begun (line : List ℕ) (t : Token) (rest : List ℕ) : Type 0 where
  pub word : is_word t.part ≡ true
  pub sound : Word (text_of t.part)
  pub behind : t.place ≡ 1
  pub placed : Placed line t rest
  pub leads : outcome start line ≡ outcome (closed (record { head = text_of t.part; args = [] })) rest

-- What a line begins with; or no form, and the reader, before which `before` was left, stays there.
abbrev pub First : (line before : List ℕ) → Result Token Fault → (rest : List ℕ) → Type 0
First line before (Ok t) rest = Begun line t rest
First line before (Err e) rest = (rest ≡ before) × (left : List ℕ) × At line left e × (outcome start line ≡ stuck (length left))

-- one more argument t of the form so far, which the bytes bs of the line go on from
pub record More (line bs : List ℕ) (t : Token) (rest : List ℕ) : Type 0 where
  pub spelled : bs ≡ 32 ∷ (bytes_of t.part ++ rest)
  pub shorter : length rest < length bs
  pub sound : SoundPart t.part
  pub placed : Placed line t rest
  pub leads : (f : Form) → outcome (closed f) bs ≡ outcome (closed (with_arg f (arg_of t.part))) rest

-- What follows the form so far, in the bytes bs of the line: its last bracket alone, one more argument, or no form. A
-- reader goes on at an argument only.
abbrev pub Next : (line bs : List ℕ) → Result (Option Token) Fault → (rest : List ℕ) → Type 0
Next line bs (Ok None) rest = (rest ≡ bs) × (bs ≡ 41 ∷ [])
Next line bs (Ok (Some t)) rest = More line bs t rest
Next line bs (Err e) rest = (rest ≡ bs) × (left : List ℕ) × At line left e × ((f : Form) → outcome (closed f) bs ≡ stuck (length left))

-- at the end of the line a reader answers the same again, and stays there
abbrev pub EndStays : Type 0
EndStays = (line bs after rest : List ℕ) (r : Result (Option Token) Fault) → Next line bs (Ok None) after → Next line after r rest → (r ≡ Ok None) × (rest ≡ bs)
