-- What a whole day writes.
use Rattle.std.proofs.Common.{◌<◌, ◌≤◌, ◌≡◌, ◌≢◌, inl, inr, leb, ⊎_elim, ℕ, suc, ◌+◌, Bool, true, false, List, [], ◌∷◌, ◌++◌, length, map, take, drop, None, Some, Ok, Err, IfSome, IsSome, IsTrue, ◌↔◌, OnErr, OnOk, Option, Result, sym, refl, ap, ◌∙◌, subst, arith, add-one, append_assoc, append-nil}
use borrow.Author.Count.{below_more, below_none}
use Rattle.std.proofs.lemmas.List.{take_all, take-append-le, map-append}
use Rattle.std.proofs.lemmas.List.Elements.{All-append, All-cons, All-nil}
use Rattle.std.specs.List.{All}
use Rattle.std.proofs.lemmas.Grind.{flat_map-append}
use Rattle.std.proofs.lemmas.Bool.{cases_lt, leb-false}
use Rattle.std.proofs.KnownBytes.{Appends-nil, Appends-trans, Consumes-nil, Consumes-trans}
use Rattle.book.specs.Calls.{Answer}
use Rattle.book.specs.States.{State, no_station, presence, short_pages, state}
use Rattle.book.specs.declared.book.Book.{Book}
use Rattle.posting.specs.declared.pages.Pages.{Pages}
use Rattle.answering.proofs.Days.{came_own, lawful_day}
use Rattle.grammar.specs.declared.line.TheConstants.{LONGEST_LINE}
use Rattle.spell.specs.declared.answers.TheConstants.{ANSWER_PAGE}
use Rattle.spell.specs.declared.statement.TheConstants.{STATEMENT_PAGE}
use Rattle.law.specs.Data.{layout_of}
use Rattle.law.specs.Figures.{stations_in}
use Rattle.whole_day.specs.Days.{AnsweredAll, AnsweredBy, AnsweredRest, AnsweredSome, AnsweredUnwritten, AreLines, BeginsWith, Day, DayRun, NextAll, OpenedBy, StatedAll, Stopped, all_fed, answers_text, entry_of, fed_lines, followed, last_unfed, no_book, no_line, ran, ran_part, statements_to, unopened, whole}
use Rattle.answering.specs.Entries.{Came, Entry, Next, text}
use Rattle.whole_day.specs.Inputs.{NextLine, Plain, cut}
use Rattle.answering.specs.Lines.{Begins, Lined, OpensAs, StartWritten, Started, Starts, begun, kept, told, unstarted}
use Rattle.answering.specs.Statements.{generator_lines, station_line, telling, untold}
use Rattle.units.specs.Calls.{opens}
use Rattle.grammar.specs.Reads.{Accepted}
use Rattle.share.specs.Keys.{NeverVanish}
use Rattle.share.specs.declared.key.Key as key
use Rattle.spell.specs.Answers.{answer_text}
use Rattle.spell.specs.Causes.{short_page}
use Rattle.spell.specs.Pages.{Wrote, onto, writing, wrote}
use Rattle.spell.specs.Statements.{statement_text}
use Rattle.std.specs.Io.KnownBytes.{Appends, Consumes, IsAtEnd, Keeps}
use Rattle.tariff.specs.declared.tariff.Tariff as tariff
use Rattle.units.specs.Refusals.{first, when}
use Rattle.units.specs.declared.call.Opening.{Opening}
use Rattle.units.specs.declared.fault.Fault.{Fault}
use Rattle.units.specs.declared.limits.TheConstants.{STATIONS}

pub on_ok : {A E : Type 0} (r : Result A E) (P Q : Type 0) → (P → Q) → OnOk r P → OnOk r Q
on_ok (Ok x) P Q f p = f p
on_ok (Err e) P Q f p = tt

pub on_err : {A E : Type 0} (r : Result A E) (P : Type 0) → P → OnErr r P
on_err (Ok x) P p = tt
on_err (Err e) P p = p

pub kept_appends : (a b c : Option (List ℕ)) (bs : List ℕ) → Keeps a b → Appends b c bs → Appends a c bs
kept_appends None b c bs k p = tt
kept_appends (Some xs) None c bs k p = absurd k
kept_appends (Some xs) (Some ys) None bs k p = absurd p
kept_appends (Some xs) (Some ys) (Some zs) bs k p = p ∙ ap (λ l. l ++ bs) k

-- what stands at the front of the page

front_is : (n : ℕ) (wanted out out' : List ℕ) → wrote (Ok n) out' ≡ wrote (Ok (length wanted)) (onto wanted out) → take n out' ≡ wanted
front_is n wanted out out' e =
    let size : ◌≡◌ {A = Result ℕ Fault} (Ok n) (Ok (length wanted)) = ap (λ (x : Wrote). x.answer) e in
    let same : n ≡ length wanted = cc in
    let page : out' ≡ onto wanted out = ap (λ (x : Wrote). x.page) e in
    ap (λ k. take k out') same ∙ ap (take (length wanted)) page ∙ take-append-le (length wanted) wanted (drop (length wanted) out) (omega arith) ∙ take_all (length wanted) wanted (omega arith)

has_room : (least : ℕ) (out : List ℕ) → length out ≡ least → short_page least out ≡ None
has_room least out e = grind arith

front_told : (m : Option Fault) (wanted out out' : List ℕ) (n : ℕ) → wrote (Ok n) out' ≡ writing m wanted out → take n out' ≡ wanted
front_told None wanted out out' n e = front_is n wanted out out' e
front_told (Some f) wanted out out' n e =
    let same : ◌≡◌ {A = Result ℕ Fault} (Ok n) (Err f) = ap (λ (x : Wrote). x.answer) e in
    cc

untold_is : (m : Option Fault) (wanted out out' : List ℕ) (f : Fault) → wrote (Err f) out' ≡ writing m wanted out → IsSome m
untold_is None wanted out out' f e =
    let same : ◌≡◌ {A = Result ℕ Fault} (Err f) (Ok (length wanted)) = ap (λ (x : Wrote). x.answer) e in
    cc
untold_is (Some g) wanted out out' f e = refl

some_second : (m k : Option Fault) → m ≡ None → IsSome (first (m ∷ k ∷ [])) → IsSome k
some_second m (Some f) e s = refl
some_second m None e s = subst (λ x. IsSome (first (x ∷ None ∷ []))) e s

-- statements

none_told : (m : Option Fault) (wanted out out' : List ℕ) (n : ℕ) → wrote (Ok n) out' ≡ writing m wanted out → m ≡ None
none_told None wanted out out' n e = refl
none_told (Some f) wanted out out' n e =
    let same : ◌≡◌ {A = Result ℕ Fault} (Ok n) (Err f) = ap (λ (x : Wrote). x.answer) e in
    cc

none_second : (m k : Option Fault) → first (m ∷ k ∷ []) ≡ None → k ≡ None
none_second None None e = refl
none_second None (Some f) e = e
none_second (Some f) k e = cc

-- so many stations are there

station_there : (t : ℕ) (s : State) → presence t s ≡ None → t < length s.stations
station_there t s e = leb-false (length s.stations) t (passed (leb (length s.stations) t) _ (none_second (short_pages s) (no_station t s) e))
  where
    passed : (b : Bool) (f : Fault) → when b f ≡ None → b ≡ false
    passed true f e = let none : ⊥ = cc in absurd none
    passed false f e = refl

-- where there are n stations, and a statement of each, the statements of all n were written
all_stated : (code n : ℕ) (s : State) (a b : Option (List ℕ)) → length s.stations ≡ n → n ≤ STATIONS → ((t : ℕ) → t < n → presence t s ≡ None) → StatedAll code s a b
    → Appends a b (statements_to code s n)
all_stated code n s a b many few stated all =
    let low : all.stations ≤ n = ⊎_elim
    (λ (h : n < all.stations). let there = station_there n s (all.each n h) in absurd (omega arith))
    (λ (h : all.stations ≤ n). h)
    (cases_lt n all.stations) in
    let high : n ≤ all.stations = ⊎_elim
    (λ (h : all.stations < n). ⊎_elim
    (λ (last : all.stations ≡ STATIONS). absurd (omega arith))
    (λ last. absurd (never (presence all.stations s) (stated all.stations h) last))
    all.last)
    (λ (h : n ≤ all.stations). h)
    (cases_lt all.stations n) in
    let same : all.stations ≡ n = omega arith in
    subst (λ k. Appends a b (statements_to code s k)) same all.written
  where
    never : (o : Option Fault) → o ≡ None → IsSome o → ⊥
    never None e some = let none : ⊥ = cc in none
    never (Some f) e some = let none : ⊥ = cc in none

-- so far
pub record StatedBelow (code : ℕ) (s : State) (t : ℕ) (a b : Option (List ℕ)) : Type 0 where
  pub each : (k : ℕ) → k < t → presence k s ≡ None
  pub written : Appends a b (statements_to code s t)

pub stated_none : (code : ℕ) (s : State) (a : Option (List ℕ)) → StatedBelow code s 0 a a
stated_none code s a = record { each = below_none (λ k. presence k s ≡ None); written = Appends-nil a }

pub stated_more : (code t : ℕ) (s : State) (out out' : List ℕ) (n : ℕ) (a b c : Option (List ℕ)) → wrote (Ok n) out' ≡ telling code t s out → StatedBelow code s t a b → Appends b c (take n out')
    → StatedBelow code s (t + 1) a c
stated_more code t s out out' n a b c e before this =
    let wanted = statement_text (station_line code t s) (generator_lines t s) in
    let told_is = front_told (untold t s out) wanted out out' n e in
    let both = Appends-trans a b c (statements_to code s t) wanted before.written (subst (Appends b c) told_is this) in
    record {
      each = below_more (λ k. presence k s ≡ None) t before.each (none_second (short_page STATEMENT_PAGE out) (presence t s) (none_told (untold t s out) wanted out out' n e));
      written = subst (λ k. Appends a c (statements_to code s k)) (sym (add-one t)) both;
    }

pub stated_until : (code t : ℕ) (s : State) (out out' : List ℕ) (f : Fault) (a b : Option (List ℕ)) → length out ≡ STATEMENT_PAGE → wrote (Err f) out' ≡ telling code t s out → StatedBelow code s t a b → StatedAll code s a b
stated_until code t s out out' f a b size e so = record {
  stations = t;
  each = so.each;
  last = inr (some_second (short_page STATEMENT_PAGE out) (presence t s) (has_room STATEMENT_PAGE out size) (untold_is (untold t s out) (statement_text (station_line code t s) (generator_lines t s)) out out' f e));
  written = so.written;
}

pub stated_all : (code : ℕ) (s : State) (a b : Option (List ℕ)) → StatedBelow code s STATIONS a b → StatedAll code s a b
stated_all code s a b so = record { stations = STATIONS; each = so.each; last = inl refl; written = so.written }

plain_more : (lines : List (List ℕ)) (line : List ℕ) → All Plain lines → Plain line → All Plain (lines ++ line ∷ [])
plain_more lines line p q = All-append Plain lines (line ∷ []) p (All-cons Plain line [] q (All-nil Plain))

none_taken : (n : ℕ) (bytes : List ℕ) → take (suc n) bytes ≡ [] → bytes ≡ []
none_taken n [] e = refl
none_taken n (b ∷ bytes) e = cc

cut_none : (bytes line : List ℕ) → line ≡ cut bytes → line ≡ [] → bytes ≡ []
cut_none bytes line is none = none_taken LONGEST_LINE bytes (sym is ∙ none)

none_cut : (bytes line : List ℕ) → line ≡ cut bytes → line ≢ [] → bytes ≢ []
none_cut bytes line is some none = some (is ∙ ap cut none)

consumed_all : (known new : Option (List ℕ)) (bytes : List ℕ) → Consumes known new bytes → IsAtEnd new → IfSome known (λ xs. xs ≡ bytes)
consumed_all None new bytes c end = tt
consumed_all (Some xs) None bytes c end = absurd c
consumed_all (Some xs) (Some ys) bytes c end = c ∙ ap (λ l. bytes ++ l) end ∙ append-nil bytes

consumed_none : (known new : Option (List ℕ)) (bytes : List ℕ) → Consumes known new bytes → bytes ≡ [] → IsAtEnd new → IsAtEnd known
consumed_none None new bytes c none end = tt
consumed_none (Some xs) None bytes c none end = absurd c
consumed_none (Some xs) (Some ys) bytes c none end = c ∙ ap (λ l. l ++ ys) none ∙ end

consumed_rest : (known new : Option (List ℕ)) (front rest : List ℕ) → Consumes known new front → IfSome new (λ xs. xs ≡ rest) → IfSome known (λ xs. xs ≡ front ++ rest)
consumed_rest None new front rest c more = tt
consumed_rest (Some xs) None front rest c more = absurd c
consumed_rest (Some xs) (Some ys) front rest c more = c ∙ ap (λ l. front ++ l) more

fed_more : (xs : List (List ℕ)) (line : List ℕ) → fed_lines xs ++ (line ++ 10 ∷ []) ≡ fed_lines (xs ++ line ∷ [])
fed_more xs line = grind (arith, flat_map-append, append-nil)

answers_more : (xs : List Answer) (a : Answer) → answers_text xs ++ answer_text a ≡ answers_text (xs ++ a ∷ [])
answers_more [] a = sym (append-nil (answer_text a))
answers_more (x ∷ xs) a = append_assoc (answer_text x) (answers_text xs) (answer_text a) ∙ ap (λ l. answer_text x ++ l) (answers_more xs a)

are_more : (line input : List ℕ) (lines : List (List ℕ)) → AreLines input lines → AreLines ((line ++ 10 ∷ []) ++ input) (line ∷ lines)
are_more line input lines (all_fed e) = all_fed (ap (λ l. (line ++ 10 ∷ []) ++ l) e)
are_more line input lines (last_unfed front last is some e) =
    last_unfed (line ∷ front) last (ap (λ l. line ∷ l) is) some (ap (λ l. (line ++ 10 ∷ []) ++ l) e ∙ sym (append_assoc (line ++ 10 ∷ []) (fed_lines front) last))

three : (a b c d e : Option (List ℕ)) (xs ys zs : List ℕ) → Keeps a b → Appends b c xs → Appends c d ys → Appends d e zs → Appends a e (xs ++ (ys ++ zs))
three a b c d e xs ys zs k p q r = kept_appends a b e (xs ++ (ys ++ zs)) k (Appends-trans b c e xs (ys ++ zs) p (Appends-trans c d e ys zs q r))

-- lines at the front of an input

begins_fed : (known new : Option (List ℕ)) (lines : List (List ℕ)) → Consumes known new (fed_lines lines) → IfSome known (λ input. BeginsWith input lines)
begins_fed None new lines c = tt
begins_fed (Some xs) None lines c = absurd c
begins_fed (Some xs) (Some ys) lines c = followed ys c

begins_all : (known : Option (List ℕ)) (input : List ℕ) (lines : List (List ℕ)) → IfSome known (λ bytes. bytes ≡ input) → AreLines input lines → IfSome known (λ i. BeginsWith i lines)
begins_all None input lines e are = tt
begins_all (Some xs) input lines e are = whole (subst (λ i. AreLines i lines) (sym e) are)

front_more : (line input : List ℕ) (lines : List (List ℕ)) → BeginsWith input lines → BeginsWith ((line ++ 10 ∷ []) ++ input) (line ∷ lines)
front_more line input lines (followed rest e) =
    followed rest (ap (λ l. (line ++ 10 ∷ []) ++ l) e ∙ sym (append_assoc (line ++ 10 ∷ []) (fed_lines lines) rest))
front_more line input lines (whole are) = whole (are_more line input lines are)

begins_more : (known new : Option (List ℕ)) (line : List ℕ) (lines : List (List ℕ)) → Consumes known new (line ++ 10 ∷ []) → IfSome new (λ i. BeginsWith i lines) → IfSome known (λ i. BeginsWith i (line ∷ lines))
begins_more None new line lines c more = tt
begins_more (Some xs) None line lines c more = absurd c
begins_more (Some xs) (Some ys) line lines c more = subst (λ i. BeginsWith i (line ∷ lines)) (sym c) (front_more line ys lines more)

begins_none : (known : Option (List ℕ)) → IfSome known (λ i. BeginsWith i [])
begins_none None = tt
begins_none (Some xs) = followed xs refl

begins_one : (known new : Option (List ℕ)) (line : List ℕ) (fed : Bool) (next : NextLine known new line fed) → ((fed ≡ false) × (line ≡ []) → ⊥) → IfSome known (λ i. BeginsWith i (next.bytes ∷ []))
begins_one known new line true next there = begins_more known new next.bytes [] next.taken (begins_none new)
begins_one known new line false next there =
    begins_all known next.bytes (next.bytes ∷ [])
    (consumed_all known new next.bytes (subst (Consumes known new) (append-nil next.bytes) next.taken) (next.last refl))
    (last_unfed [] next.bytes refl (none_cut next.bytes line next.kept (λ empty. there (refl, empty))) refl)

-- a test that fails, of which this is what it tests
pub not_end : {P : Type 0} (r : Bool) → r ≡ false → (IsTrue r ↔ P) → P → ⊥
not_end r fails is holds = let passes : IsTrue r = is.1 holds in cc

pub next_as : (known new : Option (List ℕ)) (line : List ℕ) (fed v : Bool) → fed ≡ v → NextLine known new line fed → NextLine known new line v
next_as known new line fed v is next = subst (λ f. NextLine known new line f) is next

module _ {T K : Type 0} {prices : tariff.Ghosts T} {keys : key.Ghosts K} where
  pub answered_by : (line out out' : List ℕ) (b b' : Book T K prices keys) (p p' : Pages) (n : ℕ) (before after : Option (List ℕ)) → length out ≡ ANSWER_PAGE → Lined line out b p b' p' out' (Ok n) → Appends before after (take n out')
      → AnsweredBy line b p b' p' before after
  answered_by line out out' b b' p p' n before after size lined appended = record {
    answer = lined.answer;
    next = subst (λ k. Next (text line k) lined.answer b p b' p') size lined.next;
    written = subst (Appends before after) (front_told (short_page ANSWER_PAGE out) (answer_text lined.answer) out out' n lined.written) appended;
  }

  opened_with : (t : T) (k : K) (line out out' : List ℕ) (p p' : Pages) (n : ℕ) (book : Option (Book T K prices keys)) (before after : Option (List ℕ))
      → StartWritten t k line out p p' out' (Ok (n, book)) → IfSome book (λ x. Starts t k line p x p') → Appends before after (take n out') → OpenedBy t k line p p' before after book
  opened_with t k line out out' p p' n book before after (unstarted f short is same pages) starts appended = cc
  opened_with t k line out out' p p' n book before after (begun a room begins is page) starts appended =
      let wanted = answer_text (told a) in
      let pair : ◌≡◌ {A = ℕ × Option (Book T K prices keys)} (n, book) (length wanted, kept a) = cc in
      let size : n ≡ length wanted = ap (λ x. x.0) pair in
      let has : book ≡ kept a = ap (λ x. x.1) pair in
      record {
        opened = a;
        begins = begins;
        book = has;
        starts = starts;
        written = subst (Appends before after) (front_is n wanted out out' (ap (λ i. wrote (Ok i) out') size ∙ ap (wrote (Ok (length wanted))) page)) appended;
      }

  pub opened_by : (t : T) (k : K) (line out out' : List ℕ) (p p' : Pages) (n : ℕ) (book : Option (Book T K prices keys)) (before after : Option (List ℕ))
      → Started t k line out p p' out' (Ok (n, book)) → Appends before after (take n out') → OpenedBy t k line p p' before after book
  opened_by t k line out out' p p' n book before after started appended = opened_with t k line out out' p p' n book before after started.written started.starts appended

  pub answered_unwritten : (line out out' : List ℕ) (b b' : Book T K prices keys) (p p' : Pages) (n : ℕ) → length out ≡ ANSWER_PAGE → Lined line out b p b' p' out' (Ok n) → AnsweredUnwritten line b p b' p'
  answered_unwritten line out out' b b' p p' n size lined = answered_by line out out' b b' p p' n None None size lined tt

  -- so far
  pub record SoFar (old new : Option (List ℕ)) (b : Book T K prices keys) (p : Pages) (b' : Book T K prices keys) (p' : Pages) (before after : Option (List ℕ)) : Type 0 where
    pub lines : List (List ℕ)
    pub answers : List Answer
    pub plain : All Plain lines
    pub taken : Consumes old new (fed_lines lines)
    pub next : NextAll (map entry_of lines) answers b p b' p'
    pub written : Appends before after (answers_text answers)

  next_none : (b : Book T K prices keys) (p : Pages) → NextAll [] [] b p b p
  next_none b p t k lent o es rs came =
      subst (λ xs. Came t k lent o xs (rs ++ []) b p) (sym (append-nil es)) (subst (λ qs. Came t k lent o es qs b p) (sym (append-nil rs)) came)

  next_more : (xs : List Entry) (x : Entry) (qs : List Answer) (q : Answer) (b m e : Book T K prices keys) (p l r : Pages) → NextAll xs qs b p m l → Next x q m l e r → NextAll (xs ++ x ∷ []) (qs ++ q ∷ []) b p e r
  next_more xs x qs q b m e p l r all one t k lent o es rs came =
      subst (λ ys. Came t k lent o ys (rs ++ (qs ++ q ∷ [])) e r) (append_assoc es xs (x ∷ []))
      (subst (λ ys. Came t k lent o ((es ++ xs) ++ x ∷ []) ys e r) (append_assoc rs qs (q ∷ []))
      (one.goes_on t k lent o (es ++ xs) (rs ++ qs) (all t k lent o es rs came)))

  pub so_far_none : (known : Option (List ℕ)) (b : Book T K prices keys) (p : Pages) (before : Option (List ℕ)) → SoFar known known b p b p before before
  so_far_none known b p before = record { lines = []; answers = []; plain = All-nil Plain; taken = Consumes-nil known; next = next_none b p; written = Appends-nil before }

  line_next : (line bytes : List ℕ) (q : Answer) (xs : List (List ℕ)) (qs : List Answer) (b m e : Book T K prices keys) (p l r : Pages) → line ≡ cut bytes → NextAll (map entry_of xs) qs b p m l → Next (text line ANSWER_PAGE) q m l e r
      → NextAll (map entry_of (xs ++ bytes ∷ [])) (qs ++ q ∷ []) b p e r
  line_next line bytes q xs qs b m e p l r is all one =
      subst (λ ys. NextAll ys (qs ++ q ∷ []) b p e r) (sym (map-append entry_of xs (bytes ∷ [])))
      (next_more (map entry_of xs) (entry_of bytes) qs q b m e p l r all (subst (λ y. Next (text y ANSWER_PAGE) q m l e r) is one))

  pub so_far_more : (old new newer : Option (List ℕ)) (line : List ℕ) (b m e : Book T K prices keys) (p l r : Pages) (before held after afterwards : Option (List ℕ))
      → SoFar old new b p m l before held → NextLine new newer line true → Keeps held after → AnsweredBy line m l e r after afterwards → SoFar old newer b p e r before afterwards
  so_far_more old new newer line b m e p l r before held after afterwards so next keeps by = record {
    lines = so.lines ++ next.bytes ∷ [];
    answers = so.answers ++ by.answer ∷ [];
    plain = plain_more so.lines next.bytes so.plain next.plain;
    taken = subst (Consumes old newer) (fed_more so.lines next.bytes) (Consumes-trans old new newer (fed_lines so.lines) (next.bytes ++ 10 ∷ []) so.taken next.taken);
    next = line_next line next.bytes by.answer so.lines so.answers b m e p l r next.kept so.next by.next;
    written = subst (Appends before afterwards) (answers_more so.answers by.answer)
        (Appends-trans before held afterwards (answers_text so.answers) (answer_text by.answer) so.written (kept_appends held after afterwards (answer_text by.answer) keeps by.written));
  }

  pub answered_last : (old new newer : Option (List ℕ)) (line : List ℕ) (b m e : Book T K prices keys) (p l r : Pages) (before held after afterwards : Option (List ℕ))
      → SoFar old new b p m l before held → NextLine new newer line false → line ≢ [] → Keeps held after → AnsweredBy line m l e r after afterwards → AnsweredAll old b p e r before afterwards
  answered_last old new newer line b m e p l r before held after afterwards so next some keeps by =
      let taken = Consumes-trans old new newer (fed_lines so.lines) (next.bytes ++ []) so.taken next.taken in
      record {
        input = fed_lines so.lines ++ next.bytes;
        lines = so.lines ++ next.bytes ∷ [];
        answers = so.answers ++ by.answer ∷ [];
        read = consumed_all old newer (fed_lines so.lines ++ next.bytes) (subst (λ x. Consumes old newer (fed_lines so.lines ++ x)) (append-nil next.bytes) taken) (next.last refl);
        plain = plain_more so.lines next.bytes so.plain next.plain;
        are = last_unfed so.lines next.bytes refl (none_cut next.bytes line next.kept some) refl;
        next = line_next line next.bytes by.answer so.lines so.answers b m e p l r next.kept so.next by.next;
        written = subst (Appends before afterwards) (answers_more so.answers by.answer)
            (Appends-trans before held afterwards (answers_text so.answers) (answer_text by.answer) so.written (kept_appends held after afterwards (answer_text by.answer) keeps by.written));
      }

  pub answered_end : (old new newer : Option (List ℕ)) (line : List ℕ) (b m : Book T K prices keys) (p l : Pages) (before held after : Option (List ℕ))
      → SoFar old new b p m l before held → NextLine new newer line false → line ≡ [] → Keeps held after → AnsweredAll old b p m l before after
  answered_end old new newer line b m p l before held after so next none keeps =
      let bytes : next.bytes ≡ [] = cut_none next.bytes line next.kept none in
      let taken = Consumes-trans old new newer (fed_lines so.lines) (next.bytes ++ []) so.taken next.taken in
      record {
        input = fed_lines so.lines;
        lines = so.lines;
        answers = so.answers;
        read = consumed_all old newer (fed_lines so.lines) (subst (Consumes old newer) (ap (λ x. fed_lines so.lines ++ (x ++ [])) bytes ∙ append-nil (fed_lines so.lines)) taken) (next.last refl);
        plain = so.plain;
        are = all_fed refl;
        next = so.next;
        written = subst (Appends before after) (append-nil (answers_text so.answers)) (Appends-trans before held after (answers_text so.answers) [] so.written (keeps_nothing held after keeps));
      }
    where
      keeps_nothing : (a b : Option (List ℕ)) → Keeps a b → Appends a b []
      keeps_nothing None b k = tt
      keeps_nothing (Some xs) None k = absurd k
      keeps_nothing (Some xs) (Some ys) k = k ∙ sym (append-nil xs)

  -- where a reader or a writer fails: nothing is known of what was written

  unwritten : (old new : Option (List ℕ)) (b m : Book T K prices keys) (p l : Pages) (before after : Option (List ℕ)) → SoFar old new b p m l before after → SoFar old new b p m l None None
  unwritten old new b m p l before after so = record { lines = so.lines; answers = so.answers; plain = so.plain; taken = so.taken; next = so.next; written = tt }

  pub some_so_far : (old new : Option (List ℕ)) (b m : Book T K prices keys) (p l : Pages) (before after : Option (List ℕ)) → SoFar old new b p m l before after → AnsweredSome old b p m l
  some_so_far old new b m p l before after so = record { lines = so.lines; answers = so.answers; plain = so.plain; begins = begins_fed old new so.lines so.taken; next = so.next }

  some_of_all : (known : Option (List ℕ)) (b m : Book T K prices keys) (p l : Pages) (before after : Option (List ℕ)) → AnsweredAll known b p m l before after → AnsweredSome known b p m l
  some_of_all known b m p l before after all = record { lines = all.lines; answers = all.answers; plain = all.plain; begins = begins_all known all.input all.lines all.read all.are; next = all.next }

  -- with one line more, which may be the last
  pub some_more : (old new newer : Option (List ℕ)) (line : List ℕ) (fed : Bool) (b m e : Book T K prices keys) (p l r : Pages) (before held : Option (List ℕ))
      → SoFar old new b p m l before held → NextLine new newer line fed → ((fed ≡ false) × (line ≡ []) → ⊥) → AnsweredUnwritten line m l e r → AnsweredSome old b p e r
  some_more old new newer line true b m e p l r before held so next there by =
      some_so_far old newer b e p r None None (so_far_more old new newer line b m e p l r None None None None (unwritten old new b m p l before held so) next tt by)
  some_more old new newer line false b m e p l r before held so next there by =
      some_of_all old b e p r None None (answered_last old new newer line b m e p l r None None None None (unwritten old new b m p l before held so) next (λ empty. there (refl, empty)) tt by)

  pub answered_as : (line line' : List ℕ) (b b' : Book T K prices keys) (p p' : Pages) (before after : Option (List ℕ)) → line ≡ line' → AnsweredBy line b p b' p' before after → AnsweredBy line' b p b' p' before after
  answered_as line line' b b' p p' before after same by = subst (λ l. AnsweredBy l b p b' p' before after) same by

  pub opened_as : (t : T) (k : K) (line line' : List ℕ) (p p' : Pages) (before after : Option (List ℕ)) (b b' : Option (Book T K prices keys)) → line ≡ line' → b ≡ b' → OpenedBy t k line p p' before after b → OpenedBy t k line' p p' before after b'
  opened_as t k line line' p p' before after b b' same is by = subst (λ l. OpenedBy t k l p p' before after b') same (subst (λ x. OpenedBy t k line p p' before after x) is by)

  -- the whole

  pub day_empty : (t : T) (k : K) (known new : Option (List ℕ)) (line : List ℕ) (p : Pages) (before after : Option (List ℕ)) → NextLine known new line false → line ≡ [] → Keeps before after → Day prices keys t k known p p before after
  day_empty t k known new line p before after next none keeps =
      let bytes : next.bytes ++ [] ≡ [] = append-nil next.bytes ∙ cut_none next.bytes line next.kept none in
      no_line (consumed_none known new (next.bytes ++ []) next.taken bytes (next.last refl)) refl keeps

  pub day_unopened : (t : T) (k : K) (known new : Option (List ℕ)) (line : List ℕ) (fed : Bool) (p p' : Pages) (before held after : Option (List ℕ)) → NextLine known new line fed → ((fed ≡ false) × (line ≡ []) → ⊥) → Keeps before held
      → OpenedBy {prices = prices} {keys = keys} t k line p p' held after None → Day prices keys t k known p p' before after
  day_unopened t k known new line fed p p' before held after next there keeps by =
      let at_line : OpenedBy {prices = prices} {keys = keys} t k line p p' before after None = record {
        opened = by.opened;
        begins = by.begins;
        book = by.book;
        starts = by.starts;
        written = kept_appends before held after (answer_text (told by.opened)) keeps by.written;
      } in
      unopened (record {
        line = next.bytes;
        fed = fed;
        rest = new;
        plain = next.plain;
        read = next.taken;
        some = λ unfed. none_cut next.bytes line next.kept (λ empty. there (unfed, empty));
        last = next.last;
        opened = subst (λ x. OpenedBy {prices = prices} {keys = keys} t k x p p' before after None) next.kept at_line;
      })

  answer_ok : (a : Result (Book T K prices keys) Fault) (b : Book T K prices keys) → Some b ≡ kept a → answer_text (told a) ≡ answer_text (Ok tt)
  answer_ok (Ok x) b e = refl
  answer_ok (Err f) b e = cc

  -- the law of a run that began with nothing before it gives the number of its stations
  statements_of : NeverVanish keys.weighs → (t : T) (k : K) (lent : Pages) (o : Opening) (es : List Entry) (rs : List Answer) (b : Book T K prices keys) (p : Pages) (before after : Option (List ℕ))
      → Came t k lent o es rs b p → StatedAll (prices.code_of b.tariff) (state b p) before after
      → Appends before after (statements_to (prices.code_of b.tariff) (state b p) (stations_in (layout_of o)))
  statements_of alive t k lent o es rs b p before after came stated =
      let at_own : Came b.tariff b.key lent o es rs b p = came_own t k lent o es rs b p came in
      let law = (lawful_day alive b p).law o es rs came.takings (record { lent = lent; came = at_own; taken = came.taken }) in
      all_stated (prices.code_of b.tariff) (stations_in (layout_of o)) (state b p) before after law.many (omega (arith, law.many, b.few.1)) (λ u h. (law.stations u h).stated) stated

  -- an opening, and lines behind it, as a day's run
  abbrev day_run : NeverVanish keys.weighs → (t : T) (k : K) (bytes line : List ℕ) (lines : List (List ℕ)) (answers : List Answer) (p p' p'' : Pages) (b b' : Book T K prices keys)
      → line ≡ cut bytes → Starts t k line p b p' → NextAll (map entry_of lines) answers b p' b' p'' → DayRun prices keys t k bytes lines p p''
  day_run alive t k bytes line lines answers p p' p'' b b' is start next = record {
    opening = start.opening;
    spelled = subst (λ x. Accepted x (opens start.opening)) is start.spelled;
    answers = answers;
    book = b';
    came = next t k p start.opening [] [] start.came;
    lawful = lawful_day alive b' p'';
  }

  day_ran : NeverVanish keys.weighs → (t : T) (k : K) (known new : Option (List ℕ)) (line : List ℕ) (p p' p'' : Pages) (b b' : Book T K prices keys) (before held opened answered after : Option (List ℕ))
      → NextLine known new line true → Keeps before held → OpenedBy t k line p p' held opened (Some b) → AnsweredAll new b p' b' p'' opened answered → StatedAll (prices.code_of b'.tariff) (state b' p'') answered after
      → Day prices keys t k known p p'' before after
  day_ran alive t k known new line p p' p'' b b' before held opened answered after next keeps by all stated =
      let start = by.starts in
      let came = all.next t k p start.opening [] [] start.came in
      let code = prices.code_of b'.tariff in
      ran (record {
        input = (next.bytes ++ 10 ∷ []) ++ all.input;
        line = next.bytes;
        lines = all.lines;
        read = consumed_rest known new (next.bytes ++ 10 ∷ []) all.input next.taken all.read;
        plain = All-cons Plain next.bytes all.lines next.plain all.plain;
        are = are_more next.bytes all.input all.lines all.are;
        run = day_run alive t k next.bytes line all.lines all.answers p p' p'' b b' next.kept start all.next;
        written = three before held opened answered after (answer_text (Ok tt)) (answers_text all.answers) (statements_to code (state b' p'') (stations_in (layout_of start.opening))) keeps
            (subst (Appends held opened) (answer_ok by.opened b by.book) by.written) all.written
            (statements_of alive t k p start.opening (map entry_of all.lines) all.answers b' p'' answered after came stated);
      })

  day_one : NeverVanish keys.weighs → (t : T) (k : K) (known new : Option (List ℕ)) (line : List ℕ) (p p' : Pages) (b : Book T K prices keys) (before held opened after : Option (List ℕ))
      → NextLine known new line false → line ≢ [] → Keeps before held → OpenedBy t k line p p' held opened (Some b) → StatedAll (prices.code_of b.tariff) (state b p') opened after
      → Day prices keys t k known p p' before after
  day_one alive t k known new line p p' b before held opened after next some keeps by stated =
      let start = by.starts in
      let code = prices.code_of b.tariff in
      ran (record {
        input = next.bytes;
        line = next.bytes;
        lines = [];
        read = consumed_all known new next.bytes (subst (Consumes known new) (append-nil next.bytes) next.taken) (next.last refl);
        plain = All-cons Plain next.bytes [] next.plain (All-nil Plain);
        are = last_unfed [] next.bytes refl (none_cut next.bytes line next.kept some) refl;
        run = day_run alive t k next.bytes line [] [] p p' p' b b next.kept start (next_none b p');
        written = three before held opened opened after (answer_text (Ok tt)) [] (statements_to code (state b p') (stations_in (layout_of start.opening))) keeps
            (subst (Appends held opened) (answer_ok by.opened b by.book) by.written) (Appends-nil opened)
            (statements_of alive t k p start.opening [] [] b p' opened after start.came stated);
      })

  pub day_is : NeverVanish keys.weighs → (t : T) (k : K) (known new : Option (List ℕ)) (line : List ℕ) (fed : Bool) (p p' p'' : Pages) (b b' : Book T K prices keys) (before held opened answered after : Option (List ℕ))
      → NextLine known new line fed → ((fed ≡ false) × (line ≡ []) → ⊥) → Keeps before held → OpenedBy t k line p p' held opened (Some b)
      → AnsweredRest fed new b p' b' p'' opened answered → StatedAll (prices.code_of b'.tariff) (state b' p'') answered after
      → Day prices keys t k known p p'' before after
  day_is alive t k known new line true p p' p'' b b' before held opened answered after next some keeps by all stated =
      day_ran alive t k known new line p p' p'' b b' before held opened answered after next keeps by all stated
  day_is alive t k known new line false p p' p'' b b' before held opened answered after next some keeps by none stated =
      subst (λ (q : Pages). Day prices keys t k known p q before after) (sym none.1)
      (day_one alive t k known new line p p' b before held opened after next (λ empty. some (refl, empty)) keeps by
      (subst (λ (x : Book T K prices keys). StatedAll (prices.code_of x.tariff) (state x p') opened after) none.0
      (subst (λ (q : Pages). StatedAll (prices.code_of b'.tariff) (state b' q) opened after) none.1
      (subst (λ (o : Option (List ℕ)). StatedAll (prices.code_of b'.tariff) (state b' p'') o after) none.2 stated))))

  -- where it fails

  no_page_changed : (t : T) (k : K) (line : List ℕ) (p p' : Pages) (a : Result (Book T K prices keys) Fault) → Begins t k line p p' a → None ≡ kept a → p' ≡ p
  no_page_changed t k line p p' (Ok b) begins is = cc
  no_page_changed t k line p p' (Err f) begins is = unopened_by begins.taken begins.opens
    where
      unopened_by : (o : Result Opening Fault) → OpensAs {T = T} {K = K} {prices = prices} {keys = keys} t k o p p' (Err f) → p' ≡ p
      unopened_by (Ok o) opens = opens.kept
      unopened_by (Err g) opens = opens.1

  pub stopped_opening : NeverVanish keys.weighs → (t : T) (k : K) (known new : Option (List ℕ)) (line : List ℕ) (fed : Bool) (p p' : Pages) (before after : Option (List ℕ)) (b : Option (Book T K prices keys))
      → NextLine known new line fed → ((fed ≡ false) × (line ≡ []) → ⊥) → OpenedBy t k line p p' before after b → Stopped prices keys t k known p p'
  stopped_opening alive t k known new line fed p p' before after None next there by = no_book (no_page_changed t k line p p' by.opened by.begins by.book)
  stopped_opening alive t k known new line fed p p' before after (Some b) next there by = ran_part (record {
    line = next.bytes;
    lines = [];
    plain = All-cons Plain next.bytes [] next.plain (All-nil Plain);
    begins = begins_one known new line fed next there;
    run = day_run alive t k next.bytes line [] [] p p' p' b b next.kept by.starts (next_none b p');
  })

  pub stopped_lines : NeverVanish keys.weighs → (t : T) (k : K) (known new : Option (List ℕ)) (line : List ℕ) (p p' p'' : Pages) (b b' : Book T K prices keys) (before after : Option (List ℕ))
      → NextLine known new line true → OpenedBy t k line p p' before after (Some b) → AnsweredSome new b p' b' p'' → Stopped prices keys t k known p p''
  stopped_lines alive t k known new line p p' p'' b b' before after next by some = ran_part (record {
    line = next.bytes;
    lines = some.lines;
    plain = All-cons Plain next.bytes some.lines next.plain some.plain;
    begins = begins_more known new next.bytes some.lines next.taken some.begins;
    run = day_run alive t k next.bytes line some.lines some.answers p p' p'' b b' next.kept by.starts some.next;
  })

  -- all lines were answered, and a statement could not be written
  pub stopped_last : NeverVanish keys.weighs → (t : T) (k : K) (known new : Option (List ℕ)) (line : List ℕ) (fed : Bool) (p p' p'' : Pages) (b b' : Book T K prices keys) (before after answered : Option (List ℕ))
      → NextLine known new line fed → ((fed ≡ false) × (line ≡ []) → ⊥) → OpenedBy t k line p p' before after (Some b) → AnsweredRest fed new b p' b' p'' after answered
      → Stopped prices keys t k known p p''
  stopped_last alive t k known new line true p p' p'' b b' before after answered next there by all =
      stopped_lines alive t k known new line p p' p'' b b' before after next by (some_of_all new b b' p' p'' after answered all)
  stopped_last alive t k known new line false p p' p'' b b' before after answered next there by none =
      subst (λ (q : Pages). Stopped prices keys t k known p q) (sym none.1) (stopped_opening alive t k known new line false p p' before after (Some b) next there by)
