-- Lines of an input, and what of it is known to be left.
use Rattle.std.specs.Prelude.{◌≡◌, ◌≢◌, ℕ, ◌+◌, ◌-◌, ◌≤◌, Bool, true, false, List, [], ◌∷◌, ◌++◌, All, length, take, drop, Option}
use Rattle.grammar.specs.declared.line.TheConstants.{LONGEST_LINE}
use Rattle.whole_day.specs.declared.ahead.Ahead.{Ahead}
use Rattle.std.specs.Io.KnownBytes.{Consumes, IsAtEnd, prepend_known}

-- no line feed
abbrev pub Plain : List ℕ → Type 0
Plain = All (λ byte. byte ≢ 10)

-- a line feed, where there is one
abbrev pub feed : Bool → List ℕ
feed true = 10 ∷ []
feed false = []

-- as much of a line as is kept: one byte more than a line may have, so that a longer one is refused
abbrev pub cut : List ℕ → List ℕ
cut = take (LONGEST_LINE + 1)

-- Bytes were taken up to a line feed, and it too, or all; the line, of which so much is kept, grew
-- by them.
pub record Took (ahead line line' : List ℕ) (taken : ℕ) (fed : Bool) : Type 0 where
  pub bytes : List ℕ
  pub plain : Plain bytes
  pub kept : (raw : List ℕ) → line ≡ cut raw → line' ≡ cut (raw ++ bytes)
  pub within : taken ≤ length ahead
  pub front : take taken ahead ≡ bytes ++ feed fed
  pub all : fed ≡ false → taken ≡ length ahead

-- the bytes that were read ahead and are not taken
abbrev pub ahead : Ahead → List ℕ
ahead w = take (w.end - w.at) (drop w.at w.bytes)

-- what is left: those, and what the reader has
abbrev pub left : {R : Type 0} → (R → Option (List ℕ)) → Ahead → R → Option (List ℕ)
left remaining w r = prepend_known (ahead w) (remaining r)

-- The same, as they stood before and after.
pub record TookAhead (before after line line' : List ℕ) (fed : Bool) : Type 0 where
  pub bytes : List ℕ
  pub plain : Plain bytes
  pub kept : (raw : List ℕ) → line ≡ cut raw → line' ≡ cut (raw ++ bytes)
  pub front : before ≡ (bytes ++ feed fed) ++ after
  pub all : fed ≡ false → after ≡ []

-- A line, as far as it is kept, was taken from what was left, with its line feed, or, at the end,
-- without one.
pub record NextLine (old new : Option (List ℕ)) (line : List ℕ) (fed : Bool) : Type 0 where
  pub bytes : List ℕ
  pub plain : Plain bytes
  pub kept : line ≡ cut bytes
  pub taken : Consumes old new (bytes ++ feed fed)
  pub last : fed ≡ false → IsAtEnd new
