-- Spelling and reading undo each other.
--
-- That two calls are the same is said of what they ask for: of a list's memory nothing is said.
use Rattle.std.specs.Prelude.{◌≡◌, ℕ, ◌≤◌, List, length, take, Ok, Err, Result}
use Rattle.std.specs.List.{AllByRecursion}
use Rattle.units.specs.declared.call.Call.{Call}
use Rattle.units.specs.declared.call.Opening.{Opening}
use Rattle.units.specs.declared.fault.Fault.{Fault}
use Rattle.grammar.specs.Calls.{Held, form}
use Rattle.units.specs.Calls.{Asked, asked, opens}
use Rattle.grammar.specs.Grammar.{spelled}
use Rattle.grammar.specs.Reads.{ReadsCall, ReadsOpening}
use Rattle.grammar.specs.declared.line.TheConstants.{LONGEST_LINE}
use Rattle.spell.specs.Pages.{wrote, onto}
use Rattle.spell.specs.Spelling.{spelling}

-- The laws are the same of calls and of openings: X is either, `asks` is what it asks for, and `Reads` relates a line
-- to what reading it answers.

-- an answer to the line that spells x: x again
abbrev pub Same : (X : Type 0) → (X → Asked) → X → Result X Fault → Type 0
Same X asks x (Ok y) = asks y ≡ asks x
Same X asks x (Err e) = ⊥

-- what was written of x on a page reads as x
abbrev pub ReadBack : (X : Type 0) → (X → Asked) → (List ℕ → Result X Fault → Type 0) → Type 0
ReadBack X asks Reads = (x : X) (page after : List ℕ) (n : ℕ) → wrote (Ok n) after ≡ spelling (asks x) page → (r : Result X Fault) → Reads (take n after) r → Same X asks x r

-- a form holds each argument, and the line is not too long
pub record FitsLine (a : Asked) : Type 0 where
  pub held : AllByRecursion Held a.values
  pub short : length (spelled (form a)) ≤ LONGEST_LINE

-- x has a line, which is written on every page that is long enough, and no other line reads as x
pub record OneLine (X : Type 0) (asks : X → Asked) (Reads : List ℕ → Result X Fault → Type 0) (x : X) : Type 0 where
  pub line : List ℕ
  pub reads : Reads line (Ok x)
  pub written : (page : List ℕ) → LONGEST_LINE ≤ length page → wrote (Ok (length line)) (onto line page) ≡ spelling (asks x) page
  pub only : (other : List ℕ) (y : X) → asks y ≡ asks x → Reads other (Ok y) → other ≡ line

abbrev pub OneLineEach : (X : Type 0) → (X → Asked) → (List ℕ → Result X Fault → Type 0) → Type 0
OneLineEach X asks Reads = (x : X) → FitsLine (asks x) → OneLine X asks Reads x

-- what is written fits a line
abbrev pub WrittenFits : Type 0
WrittenFits = (a : Asked) (page after : List ℕ) (n : ℕ) → wrote (Ok n) after ≡ spelling a page → FitsLine a

-- of calls and of openings
abbrev pub Both : ((X : Type 0) → (X → Asked) → (List ℕ → Result X Fault → Type 0) → Type 0) → Type 0
Both Law = Law Call asked ReadsCall × Law Opening opens ReadsOpening
