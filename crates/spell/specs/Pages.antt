-- Texts on a page.
use Rattle.std.specs.Prelude.{◌≡◌, ℕ, suc, ◌+◌, ◌^◌, ◌≤◌, List, [], ◌∷◌, ◌++◌, length, drop, Some, None, Option, Ok, Err, Result, slice_set}
use Rattle.std.specs.List.{flat_map}
use Rattle.units.specs.declared.fault.Fault.{Fault}
use Rattle.spell.specs.declared.writer.Writer.{Writer}

-- the page with the text from this place on; what reaches beyond the page's end is lost
unfoldable pub laid : ℕ → List ℕ → List ℕ → List ℕ
laid at [] page = page
laid at (b ∷ bs) page = laid (suc at) bs (slice_set page at b)

-- a writer put the text at a place of the page, and answered the place behind it
pub record Lays (text : List ℕ) (at : ℕ) (before after : List ℕ) (next : ℕ) : Type 0 where
  pub place : next ≡ at + length text
  pub page : after ≡ laid at text before

-- a writer wrote the text, of so many bytes at most, on the page where it stands, and stands behind it
pub record Writes (text : List ℕ) (most : ℕ) (before after : Writer) : Type 0 where
  pub lays : Lays text before.at before.page.now after.page.now after.at
  pub short : length text ≤ most
  pub same : after.page.ghost_name ≡ before.page.ghost_name

-- so many bytes more, and the writer stands at no place from 2^32 on
abbrev pub HasRoom : ℕ → Writer → Type 0
HasRoom most writer = writer.at + most ≤ 2 ^ 32

-- the text stands at the front, and behind it what the page held
abbrev pub onto : List ℕ → List ℕ → List ℕ
onto text page = text ++ drop (length text) page

-- what a writer answers, and what the page holds then
pub record Wrote : Type 0 where
  pub answer : Result ℕ Fault
  pub page : List ℕ

abbrev pub wrote : Result ℕ Fault → List ℕ → Wrote
wrote answer page = record { answer = answer; page = page }

-- the text at the front of the page; or its refusal, and the page as it was
abbrev pub writing : Option Fault → List ℕ → List ℕ → Wrote
writing None text page = wrote (Ok (length text)) (onto text page)
writing (Some f) text page = wrote (Err f) page

-- each after a space
abbrev pub after_spaces : List (List ℕ) → List ℕ
after_spaces = flat_map (λ text. 32 ∷ text)

-- a head and words, in brackets
abbrev pub bracketed : List ℕ → List (List ℕ) → List ℕ
bracketed head texts = (40 ∷ (head ++ after_spaces texts)) ++ 41 ∷ []

-- with a line feed
abbrev pub line_fed : List ℕ → List (List ℕ) → List ℕ
line_fed head texts = bracketed head texts ++ 10 ∷ []
