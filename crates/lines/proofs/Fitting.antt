-- Whether the arguments of a form fit its head, and what is asked for then.
use Rattle.std.proofs.Common.{◌≡◌, ℕ, ◌-◌, ◌≤◌, min, Bool, true, false, List, map, length, take, Ok, Err, Result, MatchResult, Some, None, Option, MatchOption, ◌≢◌, sym, refl, ap, ◌∙◌, subst, arith, length-take}
use Rattle.std.specs.Bool.{then_some}
use Rattle.std.specs.Option.{ok_or}
use Rattle.std.proofs.lemmas.Bool.{both_ways, not_from_true}
use Rattle.grammar.proofs.Exactly.{one_head}
use Rattle.std.proofs.lemmas.List.{take_all, take-take, take-map}
use Rattle.std.proofs.lemmas.Simd.{map-map}
use Rattle.units.specs.declared.fault.Fault.{Fault}
use Rattle.units.specs.declared.fault.Fault.TheVariants.{UnknownHead}
use Rattle.grammar.specs.Calls.{Misfit, value}
use Rattle.units.specs.Calls.{Value, IsCallOf, fitted, opening_said, padded, spoken, with_values}
use Rattle.units.specs.Heads.{calls, openings, sorts, name}
use Rattle.units.specs.declared.call.Call.{Call}
use Rattle.units.specs.declared.call.Opening.{Opening}
use Rattle.grammar.specs.Grammar.{Form, spelled}
use Rattle.grammar.specs.Reads.{arg_sort, Heads, Refused, no_head, misfit, Accepted, ReadsCall, ReadsOpening}
use Rattle.units.specs.declared.head.Head.{Head}
use Rattle.units.specs.declared.head.Head.TheVariants as head
use Rattle.units.specs.declared.head.Sort.{Sort}
use Rattle.tokens.specs.Tokens.{arg_of}
use Rattle.lines.specs.Arguments.{call_values, part_sort, values_of}
use Rattle.lines.specs.Forms.{Found, Fits, Tells, Fitting}
use Rattle.lines.specs.declared.form.Parts.{Parts}
use Rattle.lines.specs.declared.form.TheConstants.{MOST_GATHERED}
use Rattle.units.specs.declared.call.TheConstants.{MOST_ARGUMENTS}
use Rattle.tokens.specs.declared.token.Part.{Part}
use Rattle.grammar.specs.Laws.{value_sort}
use Rattle.lines.proofs.Taking.{enough, few_sorts, fits, how_many, sorts_of_values, spells}

-- the first sorts tell as much as all
cut_misfit : (have want : List Sort) (p : ℕ) → length want ≤ MOST_ARGUMENTS → Misfit (take MOST_GATHERED have) want p → Misfit have want p
cut_misfit have want p few m =
    let low : p - 1 ≤ min (length (take MOST_GATHERED have)) (length want) = m.within in
    let long : length (take MOST_GATHERED have) ≡ min MOST_GATHERED (length have) = length-take MOST_GATHERED have in
    record {
      counted = m.counted;
      before = sym (take-take (p - 1) MOST_GATHERED have (omega arith)) ∙ m.before;
      within = omega arith;
      here = λ e. m.here (take-take p MOST_GATHERED have (omega (arith, m.counted)) ∙ e);
    }

cut_fit : (have want : List Sort) → length want ≤ MOST_ARGUMENTS → take MOST_GATHERED have ≡ want → have ≡ want
cut_fit have want few e = sym (take_all MOST_GATHERED have (omega (arith, length-take MOST_GATHERED have, ap length e))) ∙ e

-- the sorts of the arguments that are kept
kept_sorts : (line : List ℕ) (parts : Parts) (q : Found line parts) → map part_sort parts.args.items ≡ take MOST_GATHERED (map arg_sort q.form.args)
kept_sorts line parts q = sym (map-map arg_sort arg_of parts.args.items) ∙ ap (map arg_sort) q.kept ∙ sym (take-map arg_sort MOST_GATHERED q.form.args)

-- the head that a word spells, if it is wanted
pub headed : {heads : Head → Bool} {line : List ℕ} {parts : Parts} {gives : Head → Bool → Type 0} {o : Result Head Fault} (r s : Option Head) (q : Found line parts) → Tells gives heads → MatchOption r ((h : Head) → parts.letters.now ≢ name h) (λ h. parts.letters.now ≡ name h) → MatchOption r (s ≡ None) (λ h. (b : Bool) × gives h b × (s ≡ then_some b h)) → o ≡ ok_or s UnknownHead → MatchResult o (Heads heads q.form) (Refused heads line)
headed None s q tells none e is =
    rw (is, e) (no_head q.form q.is (λ h k. none h (q.named ∙ k.named)) refl)
headed {heads} {line} (Some h) s q tells same e is =
    rw is ((elim e.0 as (λ b. b ≡ heads h → s ≡ then_some b h → MatchResult (ok_or s UnknownHead) (Heads heads q.form) (Refused heads line)) [
      | true ↦ λ k p. rw p (record { named = sym q.named ∙ same; taken = sym k })
      | false ↦ λ k p. rw p (no_head q.form q.is (λ j w. both_ways _ (sym k) (ap heads (one_head h j (sym same ∙ q.named ∙ w.named)) ∙ w.taken)) refl)
    ]) (tells h e.0 e.1) e.2)

pub misfits : {heads : Head → Bool} {line : List ℕ} {parts : Parts} {h : Head} {e : Fault} (q : Found line parts) → Heads heads q.form h → Fits (map part_sort parts.args.items) (sorts h) (Err e) → Refused heads line e
misfits {line = line} {parts = parts} {h = h} q k m =
    misfit q.form h m.0 q.is k
    (cut_misfit _ (sorts h) m.0 (few_sorts h) (subst (λ l. Misfit l (sorts h) m.0) (kept_sorts line parts q) m.1))
    m.2

pub fitting : {heads : Head → Bool} {line : List ℕ} {parts : Parts} {h : Head} (q : Found line parts) → Heads heads q.form h → map part_sort parts.args.items ≡ sorts h → Fitting heads line h parts
fitting {line = line} {parts = parts} {h = h} q k m =
    let f : Form = q.form in
    let same : map arg_sort f.args ≡ sorts h = cut_fit _ (sorts h) (few_sorts h) (sym (kept_sorts line parts q) ∙ m) in
    let whole : map arg_of parts.args.items ≡ f.args = q.kept ∙ take_all MOST_GATHERED f.args (omega (arith, how_many f.args (sorts h) same, few_sorts h)) in
    let s = spells f.args q.is.sound.args in
    let vs : fitted (sorts h) (map value f.args) 0 ≡ map value f.args = fits (sorts h) (map value f.args) (sorts_of_values f.args ∙ same) in
    record {
      taken = k.taken;
      fits = m;
      accepted = subst (λ xs. Accepted line (spoken (with_values h (map value xs)))) (sym whole) (subst (λ l. Accepted line (record { head = name h; values = l })) (sym vs) (record {
        short = q.is.short;
        held = s.held;
        bytes = (λ i. spelled (record { head = sym k.named i; args = s.spells i })) ∙ q.is.bytes;
      }));
    }

values_sorts : (ps : List Part) → map value_sort (values_of ps) ≡ map part_sort ps
values_sorts ps = sorts_of_values (map arg_of ps) ∙ map-map arg_sort arg_of ps

pub called : {line : List ℕ} {parts : Parts} {h k : Head} {vs : List Value} {r : Result Call Fault} (o : Option Call) → Fitting calls line h parts → k ≡ h → vs ≡ padded MOST_ARGUMENTS (call_values (values_of parts.args.items)) → IsCallOf k vs o → r ≡ ok_or o UnknownHead → ReadsCall line r
called None f same e none is = absurd (both_ways _ (not_from_true _ none) (ap calls same ∙ f.taken))
called {line = line} {parts = parts} {h = h} (Some c) f same e made is =
    rw is (subst (λ s. Accepted line (spoken s)) (sym (made.1 ∙ (λ i. with_values (same i) (e i)) ∙ enough h (values_of parts.args.items) f.taken (values_sorts parts.args.items ∙ f.fits))) f.accepted)

pub opened : {line : List ℕ} {parts : Parts} {h : Head} (o : Opening) → Fitting openings line h parts → opening_said o ≡ with_values head.Open (values_of parts.args.items) → ReadsOpening line (Ok o)
opened {line = line} {parts = parts} {h = h} o f made =
    subst (λ s. Accepted line (spoken s)) (sym (made ∙ ap (λ k. with_values k (values_of parts.args.items)) (only h f.taken))) f.accepted
  where
    only : (h : Head) → openings h ≡ true → head.Open ≡ h
    only head.Open k = refl
    only _ k = absurd cc
