-- Runs of entries from a book just opened, and the law of each.
use Rattle.std.proofs.Common.{List, [], ◌∷◌, ◌++◌, Ok, Err, IfOk, Result, ◌∙◌, refl}
use Rattle.book.specs.Calls.{Answer, Makes}
use Rattle.book.specs.Opening.{Opened, Opens}
use Rattle.book.specs.States.{state}
use Rattle.book.specs.declared.book.Book.{Book}
use Rattle.posting.specs.declared.pages.Pages.{Pages}
use Rattle.answering.proofs.Runs.{taken_more, went_as, went_calls, went_more}
use Rattle.answering.specs.Entries.{Came, CameBy, Entry, LawfulDay, Next, Taken, Taking, answered, answers_in, calls_in}
use Rattle.law.proofs.Lawful.{lawful, opened_on}
use Rattle.law.specs.Laws.{Led}
use Rattle.share.specs.Keys.{NeverVanish}
use Rattle.share.specs.declared.key.Key as key
use Rattle.tariff.specs.declared.tariff.Tariff as tariff
use Rattle.units.specs.declared.call.Opening.{Opening}
use Rattle.units.specs.declared.fault.Fault.{Fault}

module _ {T K : Type 0} {prices : tariff.Ghosts T} {keys : key.Ghosts K} where
  pub came_none : (tariff : T) (key : K) (o : Opening) (before after : Pages) (b : Book T K prices keys) → Opened tariff key o before after b → Came tariff key before o [] [] b after
  came_none tariff key o before after b opened = record {
    start = b;
    begun = after;
    opened = opened;
    takings = [];
    taken = tt;
    went = refl;
    tariff_is = opened.tariff_is;
    key_is = opened.key_is;
  }

  pub came_open : (tariff : T) (key : K) (o : Opening) (before after : Pages) (r : Result (Book T K prices keys) Fault) → Opens tariff key o before after r → IfOk r (λ b. Came tariff key before o [] [] b after)
  came_open tariff key o before after (Ok b) opened = came_none tariff key o before after b opened
  came_open tariff key o before after (Err f) opened = tt

  -- the book's own tariff and key are those under which it was opened
  pub came_own : (tariff : T) (key : K) (lent : Pages) (o : Opening) (es : List Entry) (rs : List Answer) (b : Book T K prices keys) (p : Pages) → Came tariff key lent o es rs b p → Came b.tariff b.key lent o es rs b p
  came_own tariff key lent o es rs b p came = record {
    start = came.start;
    begun = came.begun;
    opened = opened_on came.tariff_is came.key_is came.opened;
    takings = came.takings;
    taken = came.taken;
    went = came.went;
    tariff_is = refl;
    key_is = refl;
  }

  pub came_more : (x : Entry) (t : Taking) (r : Answer) (b b' : Book T K prices keys) (p p' : Pages) → Taken x t → Makes (answered t) b p b' p' r → Next x r b p b' p'
  came_more x t r b b' p p' taken makes = record {
    goes_on = λ tariff key lent o es rs came. record {
      start = came.start;
      begun = came.begun;
      opened = came.opened;
      takings = came.takings ++ t ∷ [];
      taken = taken_more es came.takings x t came.taken taken;
      went = went_more came.takings rs (state came.start came.begun) (state b p) (state b' p') t r came.went makes.does.answer makes.does.after;
      tariff_is = makes.tariff ∙ came.tariff_is;
      key_is = makes.key ∙ came.key_is;
    };
  }

  calls_led : (tariff : T) (key : K) (o : Opening) (es : List Entry) (rs : List Answer) (ts : List Taking) (b : Book T K prices keys) (p : Pages) → CameBy o es rs ts tariff key b p
      → Led o (calls_in ts) (answers_in ts rs) b p
  calls_led tariff key o es rs ts b p by = record {
    start = by.came.start;
    before = by.lent;
    begun = by.came.begun;
    opened = opened_on by.came.tariff_is by.came.key_is by.came.opened;
    run = went_calls ts rs (state by.came.start by.came.begun) (state b p) (went_as es by.came.takings ts rs (state by.came.start by.came.begun) (state b p) by.came.taken by.taken by.came.went);
  }

  pub lawful_day : NeverVanish keys.weighs → (b : Book T K prices keys) (p : Pages) → LawfulDay b p
  lawful_day alive b p = record {
    led = λ o es rs ts by. calls_led b.tariff b.key o es rs ts b p by;
    law = λ o es rs ts by. (lawful alive b p).law o (calls_in ts) (answers_in ts rs) (calls_led b.tariff b.key o es rs ts b p by);
    same = λ o q es fs rs qs ts us b' p' by also alike equal.
        (lawful alive b p).same o q (calls_in ts) (calls_in us) (answers_in ts rs) (answers_in us qs) b' p'
        (calls_led b.tariff b.key o es rs ts b p by) (calls_led b.tariff b.key q fs qs us b' p' also) also.came.tariff_is alike equal;
    station = λ o q es fs rs qs ts us b' p' by also alike t there equal.
        (lawful alive b p).station o q (calls_in ts) (calls_in us) (answers_in ts rs) (answers_in us qs) b' p'
        (calls_led b.tariff b.key o es rs ts b p by) (calls_led b.tariff b.key q fs qs us b' p' also) also.came.tariff_is alike t there equal;
  }
