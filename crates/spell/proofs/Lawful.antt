-- What is written of a call reads back as the call. Assumes nothing.
use Rattle.std.proofs.Common.{◌≡◌, ℕ, ◌≤◌, ◌^◌, Bool, Option, List, [], ◌∷◌, length, take, None, Ok, Err, Result, sym, refl, ap, ◌∙◌, subst, arith}
use Rattle.std.specs.Bool.{Decides}
use Rattle.std.specs.List.{AllByRecursion, list_all}
use Rattle.std.proofs.lemmas.List.{take_at}
use Rattle.std.proofs.lemmas.Bool.Decides.{Decides-and, Decides-ltb, nat_tests}
use Rattle.units.specs.declared.call.Call.{Call}
use Rattle.units.specs.declared.call.Opening.{Opening}
use Rattle.units.specs.declared.fault.Fault.{Fault}
use Rattle.grammar.specs.Calls.{Held, Small, form}
use Rattle.units.specs.Calls.{Value, one, many, Asked, asked, opens}
use Rattle.grammar.specs.Grammar.{spelled}
use Rattle.grammar.specs.declared.line.TheConstants.{LONGEST_LINE, MOST_DIGITS}
use Rattle.grammar.specs.Laws.{Exact}
use Rattle.grammar.specs.Reads.{Accepted, ReadsCall, ReadsOpening}
use Rattle.grammar.proofs.Exactly.{calls_exact, openings_exact}
use Rattle.spell.specs.Laws.{Same, ReadBack, FitsLine, OneLineEach, WrittenFits, Both}
use Rattle.spell.specs.Pages.{wrote, onto}
use Rattle.spell.specs.Spelling.{spelling, spelling_of}
use Rattle.spell.specs.Words.{small, all_are_small, holds}
use Rattle.spell.proofs.Holding.{all_fit, no_misfit}

-- `holds` tells what a form holds

all_decides : {X : Type 0} (test : X → Bool) (P : X → Type 0) → ((x : X) → Decides (test x) (P x)) → (xs : List X) → Decides (list_all test xs) (AllByRecursion P xs)
all_decides test P each [] = (λ _. tt, λ _. refl)
all_decides test P each (x ∷ xs) = Decides-and _ _ (each x) (all_decides test P each xs)

small_decides : (ns : List ℕ) → Decides (all_are_small ns) (AllByRecursion Small ns)
small_decides = all_decides small Small (λ n. Decides-ltb n (10 ^ MOST_DIGITS))

holds_decides : (v : Value) → Decides (holds v) (Held v)
holds_decides (one n) = Decides-ltb n (10 ^ MOST_DIGITS)
holds_decides (many ns) = let each = small_decides ns in (λ t. grind (arith, nat_tests), λ h. grind (arith, nat_tests))

values_decide : (vs : List Value) → Decides (list_all holds vs) (AllByRecursion Held vs)
values_decide = all_decides holds Held holds_decides

-- what was written

spelt : (unheld : Option Fault) (line page : List ℕ) → LONGEST_LINE ≤ length page → unheld ≡ None → length line ≤ LONGEST_LINE → wrote (Ok (length line)) (onto line page) ≡ spelling_of unheld line page
unfolding spelling_of
spelt unheld line page long all size = grind (arith, nat_tests)

record Passed (unheld : Option Fault) (line before after : List ℕ) (n : ℕ) : Type 0 where
  pub held : unheld ≡ None
  pub short : length line ≤ LONGEST_LINE
  pub size : n ≡ length line
  pub page : after ≡ onto line before

passed : (unheld : Option Fault) (line page after : List ℕ) (n : ℕ) → wrote (Ok n) after ≡ spelling_of unheld line page → Passed unheld line page after n
unfolding spelling_of
passed unheld line page after n e = grind (arith, nat_tests)

pub fits_written : WrittenFits
fits_written a page after n e =
    let p = passed _ _ _ _ _ e in
    record { held = (values_decide a.values).0 (all_fit holds a.values p.held); short = p.short }

written_line : (a : Asked) (page after : List ℕ) (n : ℕ) → wrote (Ok n) after ≡ spelling a page → take n after ≡ spelled (form a)
written_line a page after n e =
    let p = passed _ _ _ _ _ e in
    ap (take n) p.page ∙ take_at (spelled (form a)) _ n (sym p.size)

-- the line that spells a
its_line : (a : Asked) → FitsLine a → Accepted (spelled (form a)) a
its_line a fits = record { short = fits.short; held = fits.held; bytes = refl }

its_text : (a : Asked) → FitsLine a → (page : List ℕ) → LONGEST_LINE ≤ length page → wrote (Ok (length (spelled (form a)))) (onto (spelled (form a)) page) ≡ spelling a page
its_text a fits page h = spelt _ _ page h (no_misfit holds a.values ((values_decide a.values).1 fits.held)) fits.short

-- a line reads as each x that it spells
abbrev Takes : (X : Type 0) → (X → Asked) → (List ℕ → Result X Fault → Type 0) → Type 0
Takes X asks Reads = (line : List ℕ) (x : X) → Accepted line (asks x) → Reads line (Ok x)

reads_same : (X : Type 0) (asks : X → Asked) (Reads : List ℕ → Result X Fault → Type 0) → Exact X asks Reads → Takes X asks Reads → (x : X) (line : List ℕ) → Accepted line (asks x) → (r : Result X Fault) → Reads line r → Same X asks x r
reads_same X asks Reads exact takes x line a (Ok y) h = exact.one_reading line y x h (takes line x a)
reads_same X asks Reads exact takes x line a (Err e) h = exact.complete line x e a h

reads_back : (X : Type 0) (asks : X → Asked) (Reads : List ℕ → Result X Fault → Type 0) → Exact X asks Reads → Takes X asks Reads → ReadBack X asks Reads
reads_back X asks Reads exact takes x page after n e r h =
    let line : take n after ≡ spelled (form (asks x)) = written_line (asks x) page after n e in
    reads_same X asks Reads exact takes x (spelled (form (asks x))) (its_line (asks x) (fits_written (asks x) page after n e)) r (subst (λ l. Reads l r) line h)

one_line_of : (X : Type 0) (asks : X → Asked) (Reads : List ℕ → Result X Fault → Type 0) → Exact X asks Reads → Takes X asks Reads → OneLineEach X asks Reads
one_line_of X asks Reads exact takes x fits =
    let reads : Reads (spelled (form (asks x))) (Ok x) = takes _ x (its_line (asks x) fits) in
    record {
      line = spelled (form (asks x));
      reads = reads;
      written = its_text (asks x) fits;
      only = λ other y e h. exact.one_line other _ y x h reads e;
    }

pub read_back : Both ReadBack
read_back = (reads_back Call asked ReadsCall calls_exact (λ _ _ a. a), reads_back Opening opens ReadsOpening openings_exact (λ _ _ a. a))

pub one_line_each : Both OneLineEach
one_line_each = (one_line_of Call asked ReadsCall calls_exact (λ _ _ a. a), one_line_of Opening opens ReadsOpening openings_exact (λ _ _ a. a))
