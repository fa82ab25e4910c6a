-- What a line does to a book, its pages and the page for the answer.
use Rattle.std.specs.Prelude.{◌≡◌, ℕ, List, [], length, Some, None, Ok, Err, Option, Result, IfOk, IfSome}
use Rattle.book.specs.Calls.{Answer, Makes}
use Rattle.book.specs.Opening.{Opens}
use Rattle.book.specs.declared.book.Book.{Book}
use Rattle.posting.specs.declared.pages.Pages.{Pages}
use Rattle.answering.specs.Entries.{Came, Next, Taken, Taking, answered, text}
use Rattle.units.specs.Calls.{opens}
use Rattle.grammar.specs.Reads.{Accepted, ReadsCall, ReadsOpening}
use Rattle.share.specs.declared.key.Key as key
use Rattle.spell.specs.Answers.{answer_text, answering}
use Rattle.spell.specs.Causes.{short_page}
use Rattle.spell.specs.Pages.{onto, wrote}
use Rattle.spell.specs.declared.answers.TheConstants.{ANSWER_PAGE}
use Rattle.tariff.specs.declared.tariff.Tariff as tariff
use Rattle.units.specs.declared.call.Opening.{Opening}
use Rattle.units.specs.declared.fault.Fault.{Fault}

-- The line was read, and answered so: the call that it spells was made; or it spells none, is
-- refused, and nothing changed.
pub record Handled {T K : Type 0} {prices : tariff.Ghosts T} {keys : key.Ghosts K}
    (line : List ℕ) (b : Book T K prices keys) (p : Pages) (b' : Book T K prices keys) (p' : Pages)
    (r : Answer) : Type 0 where
  pub taken : Taking
  pub reads : ReadsCall line taken
  pub makes : Makes (answered taken) b p b' p' r

-- The line, and the room that there was for its answer, were answered so. That answer stands at the
-- front of the page, and behind it
-- what the page held; a page that is too short is refused, and stays as it was. And the entry goes on
-- whatever run led to the book.
pub record Lined {T K : Type 0} {prices : tariff.Ghosts T} {keys : key.Ghosts K}
    (line out : List ℕ) (b : Book T K prices keys) (p : Pages) (b' : Book T K prices keys)
    (p' : Pages) (out' : List ℕ) (r : Result ℕ Fault) : Type 0 where
  pub taken : Taking
  pub answer : Answer
  pub reads : Taken (text line (length out)) taken
  pub makes : Makes (answered taken) b p b' p' answer
  pub written : wrote r out' ≡ answering answer out
  pub next : Next (text line (length out)) answer b p b' p'

-- what an opening that was taken comes to; or the one refusal, and no page changes
abbrev pub OpensAs : {T K : Type 0} {prices : tariff.Ghosts T} {keys : key.Ghosts K} → T → K
    → Result Opening Fault
    → Pages → Pages → Result (Book T K prices keys) Fault → Type 0
OpensAs tariff key (Ok o) p p' r = Opens tariff key o p p' r
OpensAs tariff key (Err f) p p' r = (r ≡ Err f) × (p' ≡ p)

-- The line was read: a book was opened or not, as the opening that it spells says; or it spells
-- none, and is refused.
pub record Begins {T K : Type 0} {prices : tariff.Ghosts T} {keys : key.Ghosts K}
    (tariff : T) (key : K) (line : List ℕ) (p p' : Pages) (r : Result (Book T K prices keys) Fault) : Type 0 where
  pub taken : Result Opening Fault
  pub reads : ReadsOpening line taken
  pub opens : OpensAs tariff key taken p p' r

-- what is told of a book that was opened or not, and the book
abbrev pub told : {B : Type 0} → Result B Fault → Answer
told (Ok b) = Ok tt
told (Err f) = Err f

abbrev pub kept : {B : Type 0} → Result B Fault → Option B
kept (Ok b) = Some b
kept (Err f) = None

-- A page that is too short is refused, and nothing changes; else the answer stands at its front, and
-- the book is handed out.
pub data StartWritten {T K : Type 0} {prices : tariff.Ghosts T} {keys : key.Ghosts K}
    (tariff : T) (key : K) (line out : List ℕ) (p p' : Pages) (out' : List ℕ)
    (r : Result (ℕ × Option (Book T K prices keys)) Fault) : Type 0 where
  unstarted : (f : Fault) → short_page ANSWER_PAGE out ≡ Some f → r ≡ Err f → out' ≡ out → p' ≡ p
      → StartWritten tariff key line out p p' out' r
  begun : (a : Result (Book T K prices keys) Fault) → short_page ANSWER_PAGE out ≡ None
      → Begins tariff key line p p' a
      → r ≡ Ok (length (answer_text (told a)), kept a) → out' ≡ onto (answer_text (told a)) out
      → StartWritten tariff key line out p p' out' r

-- the line spells an opening, and with it, on the pages as they were lent, a run begins
pub record Starts {T K : Type 0} {prices : tariff.Ghosts T} {keys : key.Ghosts K}
    (tariff : T) (key : K) (line : List ℕ) (lent : Pages) (b : Book T K prices keys) (p : Pages)
    : Type 0 where
  pub opening : Opening
  pub spelled : Accepted line (opens opening)
  pub came : Came tariff key lent opening [] [] b p

-- What is written of an answer: whatever line was handled so, it is then answered as `Lined` says.
abbrev pub WritesHandled : {T K : Type 0} → tariff.Ghosts T → key.Ghosts K → Answer → List ℕ
    → List ℕ → Result ℕ Fault → Type 0
WritesHandled {T} {K} prices keys answer out out' r =
    (line : List ℕ) (b : Book T K prices keys) (p : Pages) (b' : Book T K prices keys) (p' : Pages)
    → Handled line b p b' p' answer → Lined line out b p b' p' out' r

-- what a line that opens a book comes to: what is written and handed out; and a run begins with
-- that book
pub record Started {T K : Type 0} {prices : tariff.Ghosts T} {keys : key.Ghosts K}
    (tariff : T) (key : K) (line out : List ℕ) (p p' : Pages) (out' : List ℕ)
    (r : Result (ℕ × Option (Book T K prices keys)) Fault) : Type 0 where
  pub written : StartWritten tariff key line out p p' out' r
  pub starts : IfOk r (λ x. IfSome x.1 (λ b. Starts tariff key line p b p'))

-- What is written of a book that was opened or not: whatever line began so, it then started as said.
abbrev pub WritesBegun : {T K : Type 0} (prices : tariff.Ghosts T) (keys : key.Ghosts K)
    → Result (Book T K prices keys) Fault
    → List ℕ → List ℕ → Result (ℕ × Option (Book T K prices keys)) Fault → Type 0
WritesBegun {T} {K} prices keys opened out out' r =
    (t : T) (k : K) (line : List ℕ) (p p' : Pages) → Begins t k line p p' opened
    → Started t k line out p p' out' r
