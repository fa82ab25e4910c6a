-- The heads of lines: their letters, and of which sorts their arguments are.
use Rattle.std.specs.Prelude.{ℕ, Bool, true, false, not, List, [], ◌∷◌, codes}
use Rattle.units.specs.declared.head.Head.{Head}
use Rattle.units.specs.declared.head.Head.TheVariants as head
use Rattle.units.specs.declared.head.Sort.{Sort}
use Rattle.units.specs.declared.head.Sort.TheVariants.{Number, List as Listed}

pub record Row : Type 0 where
  pub letters : List ℕ
  pub sorts : List Sort

abbrev pub takes : List ℕ → List Sort → Row
takes letters sorts = record { letters = letters; sorts = sorts }

-- the word that a line begins with, and the sorts of its arguments
abbrev pub row : Head → Row
row head.File = takes (codes "file") (Number ∷ Number ∷ Number ∷ Number ∷ [])
row head.Declare = takes (codes "declare") (Number ∷ Number ∷ Number ∷ Number ∷ [])
row head.Issue = takes (codes "issue") (Number ∷ [])
row head.Revise = takes (codes "revise") (Number ∷ Number ∷ Number ∷ Listed ∷ [])
row head.Close = takes (codes "close") (Number ∷ [])
row head.Read = takes (codes "read") (Number ∷ Number ∷ Number ∷ Number ∷ [])
row head.Settle = takes (codes "settle") (Number ∷ [])
row head.Correct = takes (codes "correct") (Number ∷ Number ∷ Number ∷ [])
row head.Pay = takes (codes "pay") (Number ∷ Number ∷ [])
row head.Draw = takes (codes "draw") (Number ∷ Number ∷ [])
row head.Open = takes (codes "open") (Listed ∷ Listed ∷ Listed ∷ [])

abbrev pub name : Head → List ℕ
name h = (row h).letters

abbrev pub sorts : Head → List Sort
sorts h = (row h).sorts

-- the only head of a line that opens a book
abbrev pub openings : Head → Bool
openings head.Open = true
openings _ = false

-- the heads of calls: all the others
abbrev pub calls : Head → Bool
calls h = not (openings h)
