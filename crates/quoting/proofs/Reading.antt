-- The lines of a request, one line more, and the end of them.
use Rattle.std.proofs.Common.{◌≡◌, ℕ, ◌+◌, List, [], ◌∷◌, ◌++◌, length, Some, None, Ok, Err, Option, Result, MatchResult, sym, refl, ap, ◌∙◌, subst, inl, inr, arith}
use Rattle.quoting.specs.Drafts.{Made, given_in}
use Rattle.quoting.specs.Lines.{Begins, Granted, Refused, after, blamed, read, refusal}
use Rattle.quoting.specs.Steps.{Given, ending, nothing}
use Rattle.quoting.specs.Taking.{Took}
use Rattle.quoting.specs.Words.{Said, Says}
use Rattle.quoting.specs.declared.draft.Draft.{Draft}
use Rattle.quoting.specs.declared.request.Request.{Request}
use Rattle.std.specs.Result.{IsErrAnd}
use Rattle.std.proofs.lemmas.List.{length-append}
use Rattle.std.proofs.lemmas.Result.{err_from_is_err_and}
use Rattle.quoting.specs.declared.complaint.Cause.{Cause}
use Rattle.quoting.specs.declared.complaint.Complaint.{Complaint}
use Rattle.std.specs.Str.Lines.{IsFirstLine}
use Rattle.units.specs.Refusals.{Checks, first}

pub begins_push : (xs : List Said) (text rest line more : List ℕ) (x : Said) → Begins text xs rest → IsFirstLine rest line more → Says line x
    → Begins text (xs ++ (x ∷ [])) more
begins_push [] text rest line more x e l s = (line, more, subst (λ t. IsFirstLine t line more) (sym e) l, s, refl)
begins_push (y ∷ xs) text rest line more x b l s = (b.0, b.1, b.2, b.3, begins_push xs b.1 rest line more x b.4 l s)

blamed_ok : (n : ℕ) (o : Option Cause) (r : Result Given Complaint) (t : Given) → blamed n o r ≡ Ok t → (o ≡ None) × (r ≡ Ok t)
blamed_ok n None r t e = (refl, e)
blamed_ok n (Some c) r t e = let z : ◌≡◌ {A = ℕ} 0 1 = cc in absurd (omega arith)

pub read_push : (xs : List Said) (n : ℕ) (s t : Given) (x : Said) → read n s xs ≡ Ok t
    → read n s (xs ++ (x ∷ [])) ≡ blamed (n + length xs) (refusal t x) (Ok (after t x))
read_push [] n s t x e =
    let same : s ≡ t = cc in
    let here : n ≡ n + 0 = omega arith in
    ap (λ g. blamed n (refusal g x) (Ok (after g x))) same ∙ ap (λ k. blamed k (refusal t x) (Ok (after t x))) here
read_push (y ∷ ys) n s t x e =
    let p = blamed_ok n (refusal s y) (read (n + 1) (after s y) ys) t e in
    let there : (n + 1) + length ys ≡ n + length (y ∷ ys) = omega arith in
    ap (λ o. blamed n o (read (n + 1) (after s y) (ys ++ (x ∷ [])))) p.0
    ∙ (read_push ys (n + 1) (after s y) t x p.1 ∙ ap (λ k. blamed k (refusal t x) (Ok (after t x))) there)

-- what `map_err` makes of the cause of line n
abbrev pub placed : {A : Type 0} → ℕ → Result A Cause → Result A Complaint
placed n (Ok x) = Ok x
placed n (Err c) = Err (record { line = n; cause = c })

pub placed_by : {A : Type 0} {P : Cause → Complaint → Type 0} (n : ℕ) (r : Result A Cause) (m : Result A Complaint)
    → MatchResult r (λ x. m ≡ Ok x) (λ c. IsErrAnd m (P c)) → ((c : Cause) (d : Complaint) → P c d → d ≡ record { line = n; cause = c }) → m ≡ placed n r
placed_by n (Ok x) m h says = h
placed_by n (Err c) m h says = let p = err_from_is_err_and m h in p.1 ∙ ap Err (says c p.0 p.2)

-- the line after the lines that say xs
module _ (text rest line more : List ℕ) (xs : List Said) (before exit : Draft) (begins : Begins text xs rest) (reads : read 1 nothing xs ≡ Ok (given_in before))
    (is_first : IsFirstLine rest line more) where
  abbrev given : Given
  given = given_in before

  next_read : (x : Said) → read 1 nothing (xs ++ (x ∷ [])) ≡ blamed (length xs + 1) (refusal given x) (Ok (after given x))
  next_read x = read_push xs 1 nothing given x reads ∙ ap (λ n. blamed n (refusal given x) (Ok (after given x))) (omega arith)

  -- that line is refused
  pub one_refused : (r : Result (Unit {0}) Cause) (c : Complaint) → Took line before r exit → placed (length xs + 1) r ≡ Err c → Refused text c
  one_refused (Ok u) c took e = let z : ◌≡◌ {A = ℕ} 0 1 = cc in absurd (omega arith)
  one_refused (Err cause) c took e =
      let same : record { line = length xs + 1; cause = cause } ≡ c = cc in record {
        says = xs ++ (took.0 ∷ []);
        rest = more;
        begins = begins_push xs text rest line more took.0 begins is_first took.1;
        why = inl (next_read took.0 ∙ (ap (λ o. blamed (length xs + 1) o (Ok (after given took.0))) (sym took.2) ∙ ap Err same));
      }

  -- that line is taken
  pub one_taken : (r : Result (Unit {0}) Cause) → Took line before r exit → placed (length xs + 1) r ≡ Ok tt
      → (ys : List Said) × Begins text ys more × (read 1 nothing ys ≡ Ok (given_in exit)) × (length ys ≡ length xs + 1)
  one_taken (Err cause) took e = let z : ◌≡◌ {A = ℕ} 0 1 = cc in absurd (omega arith)
  one_taken (Ok u) took e = (
    xs ++ (took.0 ∷ []),
    begins_push xs text rest line more took.0 begins is_first took.1,
    next_read took.0 ∙ (ap (λ o. blamed (length xs + 1) o (Ok (after given took.0))) (sym took.2) ∙ ap Ok (sym took.3)),
    length-append xs (took.0 ∷ []),
  )

-- the lines have ended
pub all_read : (text rest : List ℕ) (xs : List Said) (draft : Draft) (r : Result Request Cause) → Begins text xs rest → length rest ≡ 0 → read 1 nothing xs ≡ Ok (given_in draft)
    → Checks (first (ending (given_in draft))) (Made (given_in draft)) r
    → MatchResult (placed (length xs + 1) r) (Granted text) (Refused text)
all_read text rest xs draft (Ok q) begins ends reads h =
    record { says = xs; given = given_in draft; rest = rest; begins = begins; ends = ends; reads = reads; complete = h.0; made = h.1 }
all_read text rest xs draft (Err c) begins ends reads h =
    record {
      says = xs;
      rest = rest;
      begins = begins;
      why = inr (record { given = given_in draft; ends = ends; reads = reads; missing = h; line = refl });
    }
