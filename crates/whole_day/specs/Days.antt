-- A whole day: what is written for an input, and what it comes to where the reader or the writer
-- fails.
use Rattle.std.specs.Prelude.{◌≡◌, ◌≢◌, ◌⊎◌, ◌<◌, ℕ, zero, suc, Bool, true, false, List, [], ◌∷◌, ◌++◌, All, map, None, Ok, Option, Result, IfSome, IsSome}
use Rattle.book.specs.Calls.{Answer}
use Rattle.book.specs.States.{State, presence, state}
use Rattle.book.specs.declared.book.Book.{Book}
use Rattle.posting.specs.declared.pages.Pages.{Pages}
use Rattle.answering.specs.Entries.{Came, Entry, LawfulDay, Next, text}
use Rattle.law.specs.Data.{layout_of}
use Rattle.law.specs.Figures.{stations_in}
use Rattle.whole_day.specs.Inputs.{Plain, cut, feed}
use Rattle.answering.specs.Lines.{Begins, Starts, kept, told}
use Rattle.answering.specs.Statements.{generator_lines, station_line}
use Rattle.units.specs.Calls.{opens}
use Rattle.grammar.specs.Reads.{Accepted}
use Rattle.share.specs.declared.key.Key as key
use Rattle.spell.specs.Answers.{answer_text}
use Rattle.spell.specs.declared.answers.TheConstants.{ANSWER_PAGE}
use Rattle.spell.specs.Statements.{statement_text}
use Rattle.std.specs.Io.KnownBytes.{Appends, Consumes, IsAtEnd, Keeps}
use Rattle.std.specs.List.{flat_map}
use Rattle.tariff.specs.declared.tariff.Tariff as tariff
use Rattle.units.specs.declared.call.Opening.{Opening}
use Rattle.units.specs.declared.fault.Fault.{Fault}
use Rattle.units.specs.declared.limits.TheConstants.{STATIONS}

-- lines, each with its line feed
abbrev pub fed_lines : List (List ℕ) → List ℕ
fed_lines = flat_map (λ line. line ++ 10 ∷ [])

-- the input is these lines, each with its line feed, but for a last one, which then is not empty
pub data AreLines (input : List ℕ) (lines : List (List ℕ)) : Type 0 where
  all_fed : input ≡ fed_lines lines → AreLines input lines
  last_unfed : (front : List (List ℕ)) (last : List ℕ) → lines ≡ front ++ last ∷ [] → last ≢ []
      → input ≡ fed_lines front ++ last → AreLines input lines

-- the input begins with these lines: each has its line feed, whatever stands behind them; or they are
-- all of it
pub data BeginsWith (input : List ℕ) (lines : List (List ℕ)) : Type 0 where
  followed : (rest : List ℕ) → input ≡ fed_lines lines ++ rest → BeginsWith input lines
  whole : AreLines input lines → BeginsWith input lines

-- a line as an entry: of one that is too long so much as shows it; its page for the answer is the least
abbrev pub entry_of : List ℕ → Entry
entry_of line = text (cut line) ANSWER_PAGE

abbrev pub answers_text : List Answer → List ℕ
answers_text = flat_map answer_text

-- the statements of the first n stations
abbrev pub statements_to : ℕ → State → ℕ → List ℕ
statements_to code s zero = []
statements_to code s (suc n) =
    statements_to code s n ++ statement_text (station_line code n s) (generator_lines n s)

-- Statements were written of the first stations: of all before the first that has none, or of as many as a book may have.
pub record StatedAll (code : ℕ) (s : State) (before after : Option (List ℕ)) : Type 0 where
  pub stations : ℕ
  pub each : (t : ℕ) → t < stations → presence t s ≡ None
  pub last : (stations ≡ STATIONS) ⊎ IsSome (presence stations s)
  pub written : Appends before after (statements_to code s stations)

-- the line opened a book or not, and the answer was written
pub record OpenedBy {T K : Type 0} {prices : tariff.Ghosts T} {keys : key.Ghosts K}
    (tariff : T) (key : K) (line : List ℕ) (p p' : Pages) (before after : Option (List ℕ))
    (b : Option (Book T K prices keys)) : Type 0 where
  pub opened : Result (Book T K prices keys) Fault
  pub begins : Begins tariff key line p p' opened
  pub book : b ≡ kept opened
  pub starts : IfSome b (λ x. Starts tariff key line p x p')
  pub written : Appends before after (answer_text (told opened))

-- the same, with nothing known of what was written
abbrev pub OpenedUnwritten : {T K : Type 0} → tariff.Ghosts T → key.Ghosts K → T → K → List ℕ → Pages
    → Pages → Type 0
OpenedUnwritten {T} {K} prices keys tariff key line p p' =
    (b : Option (Book T K prices keys)) × OpenedBy tariff key line p p' None None b

-- the line comes next, and its answer was written
pub record AnsweredBy {T K : Type 0} {prices : tariff.Ghosts T} {keys : key.Ghosts K}
    (line : List ℕ) (b : Book T K prices keys) (p : Pages) (b' : Book T K prices keys) (p' : Pages)
    (before after : Option (List ℕ)) : Type 0 where
  pub answer : Answer
  pub next : Next (text line ANSWER_PAGE) answer b p b' p'
  pub written : Appends before after (answer_text answer)

-- the same, with nothing known of what was written
abbrev pub AnsweredUnwritten : {T K : Type 0} {prices : tariff.Ghosts T} {keys : key.Ghosts K}
    → List ℕ → Book T K prices keys → Pages → Book T K prices keys → Pages → Type 0
AnsweredUnwritten line b p b' p' = AnsweredBy line b p b' p' None None

-- whatever came before, these entries come next, with these answers
abbrev pub NextAll : {T K : Type 0} {prices : tariff.Ghosts T} {keys : key.Ghosts K} → List Entry
    → List Answer → Book T K prices keys → Pages → Book T K prices keys → Pages → Type 0
NextAll {T} {K} xs qs b p b' p' =
    (t : T) (k : K) (q : Pages) (o : Opening) (es : List Entry) (rs : List Answer)
    → Came t k q o es rs b p → Came t k q o (es ++ xs) (rs ++ qs) b' p'

-- all lines that were left come next, and their answers were written
pub record AnsweredAll {T K : Type 0} {prices : tariff.Ghosts T} {keys : key.Ghosts K}
    (known : Option (List ℕ)) (b : Book T K prices keys) (p : Pages) (b' : Book T K prices keys)
    (p' : Pages) (before after : Option (List ℕ)) : Type 0 where
  pub input : List ℕ
  pub lines : List (List ℕ)
  pub answers : List Answer
  pub read : IfSome known (λ bytes. bytes ≡ input)
  pub plain : All Plain lines
  pub are : AreLines input lines
  pub next : NextAll (map entry_of lines) answers b p b' p'
  pub written : Appends before after (answers_text answers)

-- lines at the front of what was left come next
pub record AnsweredSome {T K : Type 0} {prices : tariff.Ghosts T} {keys : key.Ghosts K}
    (known : Option (List ℕ)) (b : Book T K prices keys) (p : Pages) (b' : Book T K prices keys)
    (p' : Pages) : Type 0 where
  pub lines : List (List ℕ)
  pub answers : List Answer
  pub plain : All Plain lines
  pub begins : IfSome known (λ input. BeginsWith input lines)
  pub next : NextAll (map entry_of lines) answers b p b' p'

-- all lines behind one that had a line feed; behind one that had none there are none, and nothing
-- changed
abbrev pub AnsweredRest : {T K : Type 0} {prices : tariff.Ghosts T} {keys : key.Ghosts K} → Bool
    → Option (List ℕ)
    → Book T K prices keys → Pages → Book T K prices keys → Pages → Option (List ℕ)
    → Option (List ℕ) → Type 0
AnsweredRest true known b p b' p' before after = AnsweredAll known b p b' p' before after
AnsweredRest false known b p b' p' before after = (b' ≡ b) × (p' ≡ p) × (after ≡ before)

-- There was a line, and it opened no book: its refusal was written, and nothing for what stands behind
-- it.
pub record Unopened {T K : Type 0} (prices : tariff.Ghosts T) (keys : key.Ghosts K)
    (tariff : T) (key : K) (known : Option (List ℕ)) (p p' : Pages)
    (before after : Option (List ℕ)) : Type 0 where
  pub line : List ℕ
  pub fed : Bool
  pub rest : Option (List ℕ)
  pub plain : Plain line
  pub read : Consumes known rest (line ++ feed fed)
  pub some : fed ≡ false → line ≢ []
  pub last : fed ≡ false → IsAtEnd rest
  pub opened : OpenedBy {prices = prices} {keys = keys} tariff key (cut line) p p' before after None

-- The first line and the others were a day's run.
pub record DayRun {T K : Type 0} (prices : tariff.Ghosts T) (keys : key.Ghosts K)
    (tariff : T) (key : K) (line : List ℕ) (lines : List (List ℕ)) (p p' : Pages) : Type 0 where
  -- the first spells this opening
  pub opening : Opening
  pub spelled : Accepted (cut line) (opens opening)
  -- the others, with these answers, led from it, on the pages as they were lent, to this book, of
  -- which the law over every run holds
  pub answers : List Answer
  pub book : Book T K prices keys
  pub came : Came tariff key p opening (map entry_of lines) answers book p'
  pub lawful : LawfulDay book p'

-- The first line opened a book, and each other line was an entry.
pub record Ran {T K : Type 0} (prices : tariff.Ghosts T) (keys : key.Ghosts K)
    (tariff : T) (key : K) (known : Option (List ℕ)) (p p' : Pages)
    (before after : Option (List ℕ)) : Type 0 where
  -- all of the input was read, and it is these lines
  pub input : List ℕ
  pub line : List ℕ
  pub lines : List (List ℕ)
  pub read : IfSome known (λ bytes. bytes ≡ input)
  pub plain : All Plain (line ∷ lines)
  pub are : AreLines input (line ∷ lines)
  -- they were a day's run
  pub run : DayRun prices keys tariff key line lines p p'
  -- and `(ok)`, the answers, and a statement of each station that was opened were written
  pub written : Appends before after (answer_text (Ok tt) ++ (answers_text run.answers
      ++ statements_to (prices.code_of run.book.tariff) (state run.book p')
      (stations_in (layout_of run.opening))))

-- Lines with which the input begins were a day's run.
pub record RanPart {T K : Type 0} (prices : tariff.Ghosts T) (keys : key.Ghosts K)
    (tariff : T) (key : K) (known : Option (List ℕ)) (p p' : Pages) : Type 0 where
  pub line : List ℕ
  pub lines : List (List ℕ)
  pub plain : All Plain (line ∷ lines)
  pub begins : IfSome known (λ input. BeginsWith input (line ∷ lines))
  pub run : DayRun prices keys tariff key line lines p p'

-- What a day reads and writes: nothing where there is no line; the refusal of a first line that opens
-- no book; or the whole run.
pub data Day {T K : Type 0} (prices : tariff.Ghosts T) (keys : key.Ghosts K)
    (tariff : T) (key : K) (known : Option (List ℕ)) (p p' : Pages)
    (before after : Option (List ℕ)) : Type 0 where
  no_line : IsAtEnd known → p' ≡ p → Keeps before after
      → Day prices keys tariff key known p p' before after
  unopened : Unopened prices keys tariff key known p p' before after
      → Day prices keys tariff key known p p' before after
  ran : Ran prices keys tariff key known p p' before after
      → Day prices keys tariff key known p p' before after

-- What a day comes to where the reader or the writer fails: no line opened a book, and no page
-- changed; or some lines ran. Nothing is said of what was written.
pub data Stopped {T K : Type 0} (prices : tariff.Ghosts T) (keys : key.Ghosts K)
    (tariff : T) (key : K) (known : Option (List ℕ)) (p p' : Pages) : Type 0 where
  no_book : p' ≡ p → Stopped prices keys tariff key known p p'
  ran_part : RanPart prices keys tariff key known p p'
      → Stopped prices keys tariff key known p p'
