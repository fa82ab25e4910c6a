-- What comes to a book: calls, and lines of any bytes; what each is taken for, and what a run of
-- them answers.
use Rattle.std.specs.Prelude.{◌≡◌, ◌<◌, ℕ, List, [], ◌∷◌, ◌++◌, Some, None, Ok, Err, Option, Result, nat_lt}
use Rattle.book.specs.Calls.{Answer, Outcome}
use Rattle.book.specs.Opening.{Opened}
use Rattle.book.specs.Runs.{step}
use Rattle.book.specs.States.{State, state}
use Rattle.book.specs.declared.book.Book.{Book}
use Rattle.posting.specs.declared.pages.Pages.{Pages}
use Rattle.grammar.specs.Reads.{ReadsCall}
use Rattle.law.specs.Data.{Data, layout_of}
use Rattle.law.specs.Figures.{stations_in}
use Rattle.law.specs.Laws.{Law, Led, SameData, SameDays, SameMoney, SameStation, data_of}
use Rattle.share.specs.declared.key.Key as key
use Rattle.spell.specs.declared.answers.TheConstants.{ANSWER_PAGE}
use Rattle.tariff.specs.declared.tariff.Tariff as tariff
use Rattle.units.specs.Refusals.{when}
use Rattle.units.specs.declared.call.Call.{Call}
use Rattle.units.specs.declared.call.Opening.{Opening}
use Rattle.units.specs.declared.fault.Fault.{Fault}
use Rattle.units.specs.declared.fault.Fault.TheVariants.{ShortOutput}

-- a call, or a line's bytes and the length of the page for its answer
pub data Entry : Type 0 where
  typed : Call → Entry
  text : List ℕ → ℕ → Entry

-- the call that is made, or, with none, the one refusal
abbrev pub Taking : Type 0
Taking = Result Call Fault

-- a page that has not room for every answer
abbrev pub no_room : ℕ → Option Fault
no_room room = when (nat_lt room ANSWER_PAGE) (ShortOutput room)

-- a line is read where there is room for any answer
abbrev pub Read : Option Fault → List ℕ → Taking → Type 0
Read None line t = ReadsCall line t
Read (Some f) line t = t ≡ Err f

-- what an entry is taken for
abbrev pub Taken : Entry → Taking → Type 0
Taken (typed c) t = t ≡ Ok c
Taken (text line room) t = Read (no_room room) line t

abbrev pub EachTaken : List Entry → List Taking → Type 0
EachTaken [] [] = Unit
EachTaken [] (t ∷ ts) = ⊥
EachTaken (x ∷ xs) [] = ⊥
EachTaken (x ∷ xs) (t ∷ ts) = Taken x t × EachTaken xs ts

-- the call's own answer, and what it leaves; else the refusal, and nothing changes
abbrev pub answered : Taking → State → Outcome
answered (Ok c) s = step c s
answered (Err f) s = record { answer = Err f; after = s }

-- one after another, from s to e, with these answers
abbrev pub Went : State → List Taking → List Answer → State → Type 0
Went s [] [] e = s ≡ e
Went s [] (r ∷ rs) e = ⊥
Went s (t ∷ ts) [] e = ⊥
Went s (t ∷ ts) (r ∷ rs) e = ((answered t s).answer ≡ r) × Went (answered t s).after ts rs e

-- These entries, with these answers, led from a book just opened under this tariff and key, on pages
-- that held this as they were lent, to this book and these pages.
pub record Came {T K : Type 0} {prices : tariff.Ghosts T} {keys : key.Ghosts K}
    (tariff : T) (key : K) (lent : Pages) (o : Opening) (es : List Entry) (rs : List Answer)
    (b : Book T K prices keys) (p : Pages) : Type 0 where
  pub start : Book T K prices keys
  pub begun : Pages
  pub opened : Opened tariff key o lent begun start
  pub takings : List Taking
  pub taken : EachTaken es takings
  pub went : Went (state start begun) takings rs (state b p)
  pub tariff_is : b.tariff ≡ tariff
  pub key_is : b.key ≡ key

-- whatever came before, this entry comes next, with this answer
pub record Next {T K : Type 0} {prices : tariff.Ghosts T} {keys : key.Ghosts K}
    (x : Entry) (r : Answer)
    (b : Book T K prices keys) (p : Pages) (b' : Book T K prices keys) (p' : Pages) : Type 0 where
  pub goes_on : (t : T) (k : K) (q : Pages) (o : Opening) (es : List Entry) (rs : List Answer)
      → Came t k q o es rs b p → Came t k q o (es ++ x ∷ []) (rs ++ r ∷ []) b' p'

-- the calls that are made
abbrev pub calls_in : List Taking → List Call
calls_in [] = []
calls_in (Ok c ∷ ts) = c ∷ calls_in ts
calls_in (Err f ∷ ts) = calls_in ts

-- their answers among all answers
abbrev pub answers_in : List Taking → List Answer → List Answer
answers_in [] rs = []
answers_in (t ∷ ts) [] = []
answers_in (Ok c ∷ ts) (r ∷ rs) = r ∷ answers_in ts rs
answers_in (Err f ∷ ts) (r ∷ rs) = answers_in ts rs

-- what entries give that are taken so
abbrev pub data_in : Opening → List Taking → List Answer → Data
data_in o ts rs = data_of o (calls_in ts) (answers_in ts rs)

-- These entries, which are taken so, led from a book just opened under this tariff and key, on any
-- pages, to this book and these pages.
pub record CameBy {T K : Type 0} {prices : tariff.Ghosts T} {keys : key.Ghosts K}
    (o : Opening) (es : List Entry) (rs : List Answer) (ts : List Taking)
    (tariff : T) (key : K) (b : Book T K prices keys) (p : Pages) : Type 0 where
  pub lent : Pages
  pub came : Came tariff key lent o es rs b p
  pub taken : EachTaken es ts

-- Whatever entries led here from a book just opened:
pub record LawfulDay {T K : Type 0} {prices : tariff.Ghosts T} {keys : key.Ghosts K}
    (b : Book T K prices keys) (p : Pages) : Type 0 where
  -- their calls, with the answers to them, led here
  pub led : (o : Opening) (es : List Entry) (rs : List Answer) (ts : List Taking)
      → CameBy o es rs ts b.tariff b.key b p → Led o (calls_in ts) (answers_in ts rs) b p
  -- (a), (b) the law holds of their data
  pub law : (o : Opening) (es : List Entry) (rs : List Answer) (ts : List Taking)
      → CameBy o es rs ts b.tariff b.key b p → Law (layout_of o) (data_in o ts rs) (state b p)
  -- (c) A book that other entries led to the same data has the same money, if it was opened under
  -- this tariff and key with the same kinds, counts and installed powers, on pages of any content
  -- and length.
  pub same : (o q : Opening) (es fs : List Entry) (rs qs : List Answer) (ts us : List Taking)
      (b' : Book T K prices keys) (p' : Pages)
      → CameBy o es rs ts b.tariff b.key b p → CameBy q fs qs us b.tariff b.key b' p'
      → layout_of o ≡ layout_of q
      → SameData (layout_of o) (data_in o ts rs) (data_in q us qs)
      → SameMoney (layout_of o) (state b p) (state b' p')
  -- (d) One station's money is the same where only the days of the stations that it is settled with
  -- are the same.
  pub station : (o q : Opening) (es fs : List Entry) (rs qs : List Answer) (ts us : List Taking)
      (b' : Book T K prices keys) (p' : Pages)
      → CameBy o es rs ts b.tariff b.key b p → CameBy q fs qs us b.tariff b.key b' p'
      → layout_of o ≡ layout_of q → (t : ℕ) → t < stations_in (layout_of o)
      → SameDays (layout_of o) (data_in o ts rs) (data_in q us qs) t
      → SameStation (layout_of o) t (state b p) (state b' p')
