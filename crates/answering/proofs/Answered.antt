-- What stands on the page once an answer is written.
use Rattle.std.proofs.Common.{◌≡◌, ℕ, List, length, None, Some, Ok, Err, IfOk, IfSome, Option, Result, sym, refl, ap, ◌∙◌, subst}
use Rattle.book.specs.Calls.{Answer, Makes}
use Rattle.book.specs.declared.book.Book.{Book}
use Rattle.posting.specs.declared.pages.Pages.{Pages}
use Rattle.answering.proofs.Days.{came_more, came_open}
use Rattle.answering.specs.Entries.{Next, Read, Taken, answered, text, typed}
use Rattle.answering.specs.Lines.{Begins, Handled, Lined, OpensAs, StartWritten, Started, Starts, begun, kept, told, unstarted}
use Rattle.grammar.specs.Reads.{ReadsCall, ReadsOpening, Refused}
use Rattle.book.specs.Runs.{step}
use Rattle.units.specs.declared.call.Call.{Call}
use Rattle.units.specs.Heads.{calls}
use Rattle.units.specs.declared.call.Opening.{Opening}
use Rattle.share.specs.declared.key.Key as key
use Rattle.spell.specs.Answers.{answer_text, answering}
use Rattle.spell.specs.Causes.{short_page}
use Rattle.spell.specs.Pages.{Wrote, onto, writing, wrote}
use Rattle.spell.specs.declared.answers.TheConstants.{ANSWER_PAGE}
use Rattle.tariff.specs.declared.tariff.Tariff as tariff
use Rattle.units.specs.declared.fault.Fault.{Fault}

pub written : (a : Answer) (out out' : List ℕ) (r : Result ℕ Fault) → short_page ANSWER_PAGE out ≡ None → wrote r out' ≡ answering a out → wrote r out' ≡ wrote (Ok (length (answer_text a))) (onto (answer_text a) out)
written a out out' r room e = e ∙ ap (λ s. writing s (answer_text a) out) room

module _ {T K : Type 0} {prices : tariff.Ghosts T} {keys : key.Ghosts K} where
  -- a refusal is answered, and nothing changes
  pub refused : (b : Book T K prices keys) (p : Pages) (f : Fault) → Makes (answered (Err f)) b p b p (Err f)
  refused b p f = record { does = record { answer = refl; after = refl }; tariff = refl; key = refl }

  pub handled_refused : (line : List ℕ) (b : Book T K prices keys) (p : Pages) (f : Fault) (r : Answer) → Refused calls line f → r ≡ Err f → Handled line b p b p r
  handled_refused line b p f r unread is = subst (λ (x : Answer). Handled line b p b p x) (sym is) (record { taken = Err f; reads = unread; makes = refused b p f })

  pub handled_taken : (line : List ℕ) (b b' : Book T K prices keys) (p p' : Pages) (c : Call) (r : Answer) → ReadsCall line (Ok c) → Makes (step c) b p b' p' r → Handled line b p b' p' r
  handled_taken line b b' p p' c r reads makes = record { taken = Ok c; reads = reads; makes = makes }

  pub line_refused : (line out : List ℕ) (b : Book T K prices keys) (p : Pages) (f : Fault) (r : Result ℕ Fault) → short_page ANSWER_PAGE out ≡ Some f → r ≡ Err f → Lined line out b p b p out r
  line_refused line out b p f r short is =
      let taken : Taken (text line (length out)) (Err f) = subst (λ m. Read m line (Err f)) (sym short) refl in
      record {
        taken = Err f;
        answer = Err f;
        reads = taken;
        makes = refused b p f;
        written = ap (λ x. wrote x out) is ∙ ap (λ s. writing s (answer_text (Err f)) out) (sym short);
        next = came_more (text line (length out)) (Err f) (Err f) b b p p taken (refused b p f);
      }

  pub line_answered : (line out out' : List ℕ) (b b' : Book T K prices keys) (p p' : Pages) (a : Answer) (r : Result ℕ Fault) → short_page ANSWER_PAGE out ≡ None → Handled line b p b' p' a → wrote r out' ≡ answering a out
      → Lined line out b p b' p' out' r
  line_answered line out out' b b' p p' a r room handled e =
      let taken : Taken (text line (length out)) handled.taken = subst (λ m. Read m line handled.taken) (sym room) handled.reads in
      record {
        taken = handled.taken;
        answer = a;
        reads = taken;
        makes = handled.makes;
        written = e;
        next = came_more (text line (length out)) handled.taken a b b' p p' taken handled.makes;
      }

  pub call_next : (c : Call) (r : Answer) (b b' : Book T K prices keys) (p p' : Pages) → Makes (step c) b p b' p' r → Next (typed c) r b p b' p'
  call_next c r b b' p p' makes = came_more (typed c) (Ok c) r b b' p p' refl makes

  pub start_refused : (t : T) (k : K) (line out : List ℕ) (p : Pages) (f : Fault) (r : Result (ℕ × Option (Book T K prices keys)) Fault) → short_page ANSWER_PAGE out ≡ Some f → r ≡ Err f → Started t k line out p p out r
  start_refused t k line out p f r short is = record {
    written = unstarted f short is refl refl;
    starts = subst (λ x. IfOk x (λ y. IfSome y.1 (λ b. Starts t k line p b p))) (sym is) tt;
  }

  pub start_answered : (t : T) (k : K) (line out out' : List ℕ) (p p' : Pages) (a : Result (Book T K prices keys) Fault) (answer : Answer) (book : Option (Book T K prices keys)) (n : ℕ)
      → short_page ANSWER_PAGE out ≡ None → Begins t k line p p' a → wrote (Ok n) out' ≡ answering answer out → answer ≡ told a → book ≡ kept a
      → StartWritten t k line out p p' out' (Ok (n, book))
  start_answered t k line out out' p p' a answer book n room begins e is has =
      let w = written answer out out' (Ok n) room e ∙ ap (λ x. wrote (Ok (length (answer_text x))) (onto (answer_text x) out)) is in
      let size : ◌≡◌ {A = Result ℕ Fault} (Ok n) (Ok (length (answer_text (told a)))) = ap (λ (x : Wrote). x.answer) w in
      let same : n ≡ length (answer_text (told a)) = cc in
      begun a room begins (ap (λ i. Ok (i, book)) same ∙ ap (λ x. Ok (length (answer_text (told a)), x)) has) (ap (λ (x : Wrote). x.page) w)

  starts_if : (t : T) (k : K) (line : List ℕ) (p p' : Pages) (a : Result (Book T K prices keys) Fault) → Begins t k line p p' a → IfSome (kept a) (λ b. Starts t k line p b p')
  starts_if t k line p p' (Err f) begins = tt
  starts_if t k line p p' (Ok b) begins = from begins.taken begins.reads begins.opens
    where
      from : (taken : Result Opening Fault) → ReadsOpening line taken → OpensAs t k taken p p' (Ok b) → Starts t k line p b p'
      from (Ok o) spelled opened = record { opening = o; spelled = spelled; came = came_open t k o p p' (Ok b) opened }
      from (Err f) refused same = let none : ⊥ = cc (same.0) in absurd none

  pub start_starts : (t : T) (k : K) (line : List ℕ) (p p' : Pages) (a : Result (Book T K prices keys) Fault) (book : Option (Book T K prices keys)) → Begins t k line p p' a → book ≡ kept a
      → IfSome book (λ b. Starts t k line p b p')
  start_starts t k line p p' a book begins has = subst (λ x. IfSome x (λ b. Starts t k line p b p')) (sym has) (starts_if t k line p p' a begins)
