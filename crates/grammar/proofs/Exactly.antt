-- A line has one answer.
use Rattle.std.proofs.Common.{◌≡◌, ℕ, ◌-◌, ◌<◌, Bool, true, List, [], ◌∷◌, map, length, take, sym, refl, ap, ◌∙◌, subst, ⊎_elim, arith}
use Rattle.std.proofs.lemmas.List.{take-take}
use Rattle.std.proofs.lemmas.Bool.{cases_lt}
use Rattle.grammar.specs.Calls.{argument, form, Misfit}
use Rattle.units.specs.Calls.{Value, one, many, Asked, asked, opens, said}
use Rattle.units.specs.Heads.{name, sorts}
use Rattle.grammar.specs.Grammar.{Word, Form, spelled, NotForm}
use Rattle.grammar.specs.declared.line.TheConstants.{LONGEST_LINE}
use Rattle.grammar.specs.Laws.{value_sort, CallsExact, OpeningsExact}
use Rattle.grammar.specs.Reads.{arg_sort, Is, Heads, Refused, long, no_form, no_head, misfit, Accepted}
use Rattle.units.specs.Heads.{calls, openings}
use Rattle.units.specs.declared.head.Head.{Head}
use Rattle.units.specs.declared.head.Head.TheVariants as head
use Rattle.units.specs.declared.head.Sort.{Sort}
use Rattle.units.specs.declared.call.Call.{Call}
use Rattle.units.specs.declared.call.Call.TheVariants as call
use Rattle.units.specs.declared.call.Opening.{Opening}
use Rattle.units.specs.declared.fault.Fault.{Fault}
use Rattle.units.specs.declared.fault.Fault.TheVariants as fault
use Rattle.grammar.proofs.Canon.{canonical, sound_form}
use Rattle.grammar.proofs.Reading.{one_form}

-- no two heads have one name
pub one_head : (h k : Head) → name h ≡ name k → h ≡ k
one_head head.Open head.Open e = refl
one_head _ head.Open e = grind arith
one_head _ _ e = grind arith

pub name_word : (h : Head) → Word (name h)
name_word head.Open = (refl, omega arith, omega arith)
name_word _ = (refl, omega arith, omega arith)

-- the parts of an answer are settled by the line

one_is : (line : List ℕ) (f g : Form) → Is line f → Is line g → f ≡ g
one_is line f g p q = one_form f g p.sound q.sound (p.bytes ∙ sym q.bytes)

one_start : (line : List ℕ) (n m : ℕ) → NotForm line n → NotForm line m → n ≡ m
one_start line n m p q =
    let low : n < m → ⊥ = λ h. p.longest.longest m h q.longest.within q.longest.begins in
    let high : m < n → ⊥ = λ h. q.longest.longest n h p.longest.within p.longest.begins in
    ⊎_elim (λ h. absurd (low h)) (λ h. ⊎_elim (λ k. absurd (high k)) (λ k. omega arith) (cases_lt m n)) (cases_lt n m)

not_earlier : (have want : List Sort) (p q : ℕ) → Misfit have want p → Misfit have want q → p < q → ⊥
not_earlier have want p q m k h =
    m.here (sym (take-take p (q - 1) have (omega arith)) ∙ ap (take p) k.before ∙ take-take p (q - 1) want (omega arith))

one_position : (have want : List Sort) (p q : ℕ) → Misfit have want p → Misfit have want q → p ≡ q
one_position have want p q m k =
    ⊎_elim (λ h. absurd (not_earlier have want p q m k h)) (λ h. ⊎_elim (λ j. absurd (not_earlier have want q p k m j)) (λ j. omega arith) (cases_lt q p)) (cases_lt p q)

heads_same : (wanted : Head → Bool) (f g : Form) (h k : Head) → f ≡ g → Heads wanted f h → Heads wanted g k → h ≡ k
heads_same wanted f g h k e p q = one_head h k (sym p.named ∙ ap (λ f. f.head) e ∙ q.named)

args_same : (f g : Form) → f ≡ g → map arg_sort f.args ≡ map arg_sort g.args
args_same f g e = ap (λ f. map arg_sort f.args) e

-- a form that fits its head is no misfit
fits_not : (line : List ℕ) (wanted : Head → Bool) (f g : Form) (h k : Head) (p : ℕ) → Is line f → Is line g → Heads wanted f h → Heads wanted g k → Misfit (map arg_sort f.args) (sorts h) p → map arg_sort g.args ≡ sorts k → ⊥
fits_not line wanted f g h k p i j a b m e =
    let same = one_is line f g i j in
    m.here (ap (take p) (args_same f g same ∙ e ∙ sym (ap sorts (heads_same wanted f g h k same a b))))

never : {X : Type 0} (line : List ℕ) (n : ℕ) (f : Form) → NotForm line n → Is line f → X
never line n f p q = absurd (p.none f q.sound q.bytes)

over : {X : Type 0} (line : List ℕ) (f : Form) → LONGEST_LINE < length line → Is line f → X
over line f h q = absurd (omega (arith, q.short))

headless : {X : Type 0} (line : List ℕ) (wanted : Head → Bool) (f g : Form) (h : Head) → Is line f → Is line g → ((h : Head) → Heads wanted f h → ⊥) → Heads wanted g h → X
headless line wanted f g h i j none a = absurd (none h (subst (λ f. Heads wanted f h) (one_is line g f j i) a))

one_refusal : (wanted : Head → Bool) (line : List ℕ) (e f : Fault) → Refused wanted line e → Refused wanted line f → e ≡ f
one_refusal wanted line e f (long h p) (long k q) = p ∙ sym q
one_refusal wanted line e f (long h p) (no_form n s k q) = absurd (omega arith)
one_refusal wanted line e f (long h p) (no_head g j k q) = over line g h j
one_refusal wanted line e f (long h p) (misfit g k n j a m q) = over line g h j
one_refusal wanted line e f (no_form n s h p) (long k q) = absurd (omega arith)
one_refusal wanted line e f (no_form n s h p) (no_form m t k q) = p ∙ ap fault.NotForm (one_start line n m h k) ∙ sym q
one_refusal wanted line e f (no_form n s h p) (no_head g j k q) = never line n g h j
one_refusal wanted line e f (no_form n s h p) (misfit g k m j a b q) = never line n g h j
one_refusal wanted line e f (no_head g i h p) (long k q) = over line g k i
one_refusal wanted line e f (no_head g i h p) (no_form m t k q) = never line m g k i
one_refusal wanted line e f (no_head g i h p) (no_head g' j k q) = p ∙ sym q
one_refusal wanted line e f (no_head g i h p) (misfit g' k m j a b q) = headless line wanted g g' k i j h a
one_refusal wanted line e f (misfit g h n i a b p) (long k q) = over line g k i
one_refusal wanted line e f (misfit g h n i a b p) (no_form m t k q) = never line m g k i
one_refusal wanted line e f (misfit g h n i a b p) (no_head g' j k q) = headless line wanted g' g h j i k a
one_refusal wanted line e f (misfit g h n i a b p) (misfit g' k m j c d q) =
    let same = one_is line g g' i j in
    let M : List Sort → List Sort → Type 0 = λ have want. Misfit have want n in
    let b' : Misfit (map arg_sort g'.args) (sorts k) n = subst (λ have. M have (sorts k)) (args_same g g' same) (subst (M (map arg_sort g.args)) (ap sorts (heads_same wanted g g' h k same a c)) b) in
    p ∙ ap fault.BadArgument (one_position _ _ n m b' d) ∙ sym q

-- what a line asks for

record Fitting (wanted : Head → Bool) (a : Asked) (h : Head) : Type 0 where
  named : a.head ≡ name h
  taken : wanted h ≡ true
  fits : map value_sort a.values ≡ sorts h

word_of : (wanted : Head → Bool) (a : Asked) (h : Head) → Fitting wanted a h → Word a.head
word_of wanted a h q = subst Word (sym q.named) (name_word h)

sorts_spelled : (vs : List Value) → map arg_sort (map argument vs) ≡ map value_sort vs
sorts_spelled [] = refl
sorts_spelled (one n ∷ vs) = ap (λ l. value_sort (one n) ∷ l) (sorts_spelled vs)
sorts_spelled (many ns ∷ vs) = ap (λ l. value_sort (many ns) ∷ l) (sorts_spelled vs)

accepted_is : (wanted : Head → Bool) (line : List ℕ) (a : Asked) (h : Head) → Fitting wanted a h → Accepted line a → Is line (form a)
accepted_is wanted line a h q p = record { short = p.short; sound = sound_form a (word_of wanted a h q) p.held; bytes = p.bytes }

never_refused : (wanted : Head → Bool) (line : List ℕ) (a : Asked) (h : Head) (e : Fault) → Fitting wanted a h → Accepted line a → Refused wanted line e → ⊥
never_refused wanted line a h e q p r = from r
  where
    own : Is line (form a)
    own = accepted_is wanted line a h q p

    heads : Heads wanted (form a) h
    heads = record { named = q.named; taken = q.taken }

    fit : map arg_sort (form a).args ≡ sorts h
    fit = sorts_spelled a.values ∙ q.fits

    from : Refused wanted line e → ⊥
    from (long k s) = over line (form a) k own
    from (no_form n t k s) = never line n (form a) k own
    from (no_head g j k s) = headless line wanted g (form a) h j own k heads
    from (misfit g k m j b c s) = absurd (fits_not line wanted g (form a) k h m j own b heads c fit)

one_reading : (wanted : Head → Bool) (line : List ℕ) (a b : Asked) (h k : Head) → Fitting wanted a h → Fitting wanted b k → Accepted line a → Accepted line b → a ≡ b
one_reading wanted line a b h k p q r s = canonical a b (word_of wanted a h p) (word_of wanted b k q) r.held s.held (r.bytes ∙ sym s.bytes)

one_line : (line other : List ℕ) (a b : Asked) → Accepted line a → Accepted other b → a ≡ b → line ≡ other
one_line line other a b p q e = sym p.bytes ∙ ap (λ a. spelled (form a)) e ∙ q.bytes

call_fits : (c : Call) → Fitting calls (asked c) (said c).head
call_fits (call.Issue t) = record { named = refl; taken = refl; fits = refl }
call_fits _ = record { named = refl; taken = refl; fits = refl }

opening_fits : (o : Opening) → Fitting openings (opens o) head.Open
opening_fits o = record { named = refl; taken = refl; fits = refl }

pub calls_exact : CallsExact
calls_exact = record {
  one_reading = λ line x y. one_reading calls line (asked x) (asked y) (said x).head (said y).head (call_fits x) (call_fits y);
  one_line = λ line other x y. one_line line other (asked x) (asked y);
  complete = λ line x e. never_refused calls line (asked x) (said x).head e (call_fits x);
  one_refusal = one_refusal calls;
}

pub openings_exact : OpeningsExact
openings_exact = record {
  one_reading = λ line x y. one_reading openings line (opens x) (opens y) head.Open head.Open (opening_fits x) (opening_fits y);
  one_line = λ line other x y. one_line line other (opens x) (opens y);
  complete = λ line x e. never_refused openings line (opens x) head.Open e (opening_fits x);
  one_refusal = one_refusal openings;
}
