-- The stations of a book, by the data.
use Rattle.std.proofs.Common.{◌≡◌, ℕ, zero, suc, ◌+◌, ◌<◌, ◌≤◌, List, length, get_or, take, set, sum, pos, ◌-ℤ◌, sym, refl, ap, ◌∙◌, subst, inl, inr, arith, length-set}
use Rattle.book.specs.Sound.{generators_of}
use Rattle.book.specs.States.{nobody}
use Rattle.book.specs.declared.station.Station.{Station}
use Rattle.law.proofs.Changed.{but_other, but_same}
use Rattle.law.specs.Data.{but}
use Rattle.law.specs.Figures.{added}
use Rattle.std.proofs.lemmas.Bool.{cases_eq}
use Rattle.std.proofs.lemmas.List.{get_or-set_other, get_or-set_same, get_or_default}
use Rattle.book.proofs.Places.{plants_set, same_generators}
use Rattle.units.specs.declared.station.Phase.{Phase}

-- as many as the opening lists, each with its generators, in its phase, and with what it drew less what it paid
pub record Stand (cs : List ℕ) (phase : ℕ → Phase) (drawn paid : ℕ → ℕ) (ss : List Station) : Type 0 where
  pub many : length ss ≡ length cs
  pub all : generators_of ss ≡ sum cs
  pub first : (t : ℕ) → t < length cs → (get_or ss t nobody).plant.members.first ≡ sum (take t cs)
  pub count : (t : ℕ) → t < length cs → (get_or ss t nobody).plant.members.count ≡ get_or cs t 0
  pub phase_is : (t : ℕ) → t < length cs → (get_or ss t nobody).stage.phase ≡ phase t
  pub net : (t : ℕ) → t < length cs → (get_or ss t nobody).balance.net ≡ pos (drawn t) -ℤ pos (paid t)

-- what holds of the new station t and of each other holds of each
pub each_of : (P : ℕ → Station → Type 0) (ss : List Station) (t : ℕ) (x : Station) → t < length ss
    → P t x → ((u : ℕ) → (u ≡ t → ⊥) → P u (get_or ss u nobody)) → (u : ℕ) → P u (get_or (set ss t x) u nobody)
each_of P ss t x h new old u = elim (cases_eq u t) [
  | inl e ↦ subst (λ (k : ℕ). P k (get_or (set ss t x) k nobody)) (sym e) (subst (P t) (sym (get_or-set_same ss t x nobody h)) new)
  | inr ne ↦ subst (P u) (sym (get_or-set_other ss t u x nobody ne)) (old u ne)
]

-- station t in its new phase, with its new sums
pub put : (cs : List ℕ) (phase : ℕ → Phase) (drawn paid : ℕ → ℕ) (ss : List Station) (t : ℕ) (x : Station) (p : Phase) (a b : ℕ)
    → Stand cs phase drawn paid ss → t < length cs → x.plant ≡ (get_or ss t nobody).plant → x.stage.phase ≡ p → x.balance.net ≡ pos a -ℤ pos b
    → Stand cs (but t p phase) (but t a drawn) (but t b paid) (set ss t x)
put cs phase drawn paid ss t x p a b s h plant is net =
    let there : t < length ss = omega (arith, s.many) in
    let same : x.plant ≡ (get_or ss t x).plant = plant ∙ ap (λ (y : Station). y.plant) (get_or_default ss t nobody x there) in
    record {
      many = length-set ss t x ∙ s.many;
      all = same_generators (set ss t x) ss (plants_set ss t x same) ∙ s.all;
      first = each_of (λ u y. u < length cs → y.plant.members.first ≡ sum (take u cs)) ss t x there (λ l. ap (λ p. p.members.first) plant ∙ s.first t l) (λ u ne l. s.first u l);
      count = each_of (λ u y. u < length cs → y.plant.members.count ≡ get_or cs u 0) ss t x there (λ l. ap (λ p. p.members.count) plant ∙ s.count t l) (λ u ne l. s.count u l);
      phase_is = each_of (λ u y. u < length cs → y.stage.phase ≡ but t p phase u) ss t x there (λ l. is ∙ sym (but_same t p phase)) (λ u ne l. s.phase_is u l ∙ sym (but_other t p phase u ne));
      net = each_of (λ u y. u < length cs → y.balance.net ≡ pos (but t a drawn u) -ℤ pos (but t b paid u)) ss t x there
          (λ l. net ∙ sym (less (but_same t a drawn) (but_same t b paid)))
          (λ u ne l. s.net u l ∙ sym (less (but_other t a drawn u ne) (but_other t b paid u ne)));
    }
  where
    less : {i j k l : ℕ} → i ≡ j → k ≡ l → pos i -ℤ pos k ≡ pos j -ℤ pos l
    less e f = rw (e, f)

-- functions that agree on the stations
pub agreeing : (cs : List ℕ) (phase phase' : ℕ → Phase) (drawn drawn' paid paid' : ℕ → ℕ) (ss : List Station)
    → ((t : ℕ) → phase t ≡ phase' t) → ((t : ℕ) → drawn t ≡ drawn' t) → ((t : ℕ) → paid t ≡ paid' t)
    → Stand cs phase drawn paid ss → Stand cs phase' drawn' paid' ss
agreeing cs phase phase' drawn drawn' paid paid' ss p q r s = record {
  many = s.many;
  all = s.all;
  first = s.first;
  count = s.count;
  phase_is = λ t h. s.phase_is t h ∙ p t;
  net = λ t h. s.net t h ∙ ap (λ i. pos i -ℤ pos (paid t)) (q t) ∙ ap (λ i. pos (drawn' t) -ℤ pos i) (r t);
}

-- a function with its own value put in place
pub but_own : {X : Type 0} (t : ℕ) (v : X) (f : ℕ → X) → v ≡ f t → (u : ℕ) → but t v f u ≡ f u
but_own t v f e u = elim (cases_eq u t) [
  | inl is ↦ ap (but t v f) is ∙ but_same t v f ∙ e ∙ sym (ap f is)
  | inr ne ↦ but_other t v f u ne
]

pub added_beyond : (f : ℕ → ℕ) (t v n : ℕ) → n ≤ t → added (but t v f) n ≡ added f n
added_beyond f t v zero h = refl
added_beyond f t v (suc n) h = omega (arith, added_beyond f t v n (omega arith), but_other t v f n (λ e. omega arith))

-- a sum where one part grows by x
pub added_more : (f : ℕ → ℕ) (t x n : ℕ) → t < n → added (but t (f t + x) f) n ≡ added f n + x
added_more f t x zero h = absurd (omega arith)
added_more f t x (suc n) h = elim (cases_eq n t) [
  | inl e ↦ omega (arith, added_beyond f t (f t + x) n (omega arith), ap (but t (f t + x) f) e, but_same t (f t + x) f, ap f e)
  | inr ne ↦ omega (arith, added_more f t x n (omega (arith, ne)), but_other t (f t + x) f n ne)
]

-- station t in its new phase, with its sums as they were
pub put_phase : (cs : List ℕ) (phase : ℕ → Phase) (drawn paid : ℕ → ℕ) (ss : List Station) (t : ℕ) (x : Station) (p : Phase)
    → Stand cs phase drawn paid ss → t < length cs → x.plant ≡ (get_or ss t nobody).plant → x.stage.phase ≡ p → x.balance.net ≡ (get_or ss t nobody).balance.net
    → Stand cs (but t p phase) drawn paid (set ss t x)
put_phase cs phase drawn paid ss t x p s h plant is net =
    agreeing cs (but t p phase) (but t p phase) (but t (drawn t) drawn) drawn (but t (paid t) paid) paid (set ss t x)
    (λ u. refl) (but_own t (drawn t) drawn refl) (but_own t (paid t) paid refl)
    (put cs phase drawn paid ss t x p (drawn t) (paid t) s h plant is (net ∙ s.net t h))

-- the same, in its phase as it was
pub put_same : (cs : List ℕ) (phase : ℕ → Phase) (drawn paid : ℕ → ℕ) (ss : List Station) (t : ℕ) (x : Station)
    → Stand cs phase drawn paid ss → t < length cs → x.plant ≡ (get_or ss t nobody).plant → x.stage.phase ≡ (get_or ss t nobody).stage.phase → x.balance.net ≡ (get_or ss t nobody).balance.net
    → Stand cs phase drawn paid (set ss t x)
put_same cs phase drawn paid ss t x s h plant is net =
    agreeing cs (but t (phase t) phase) phase drawn drawn paid paid (set ss t x)
    (but_own t (phase t) phase refl) (λ u. refl) (λ u. refl)
    (put_phase cs phase drawn paid ss t x (phase t) s h plant (is ∙ s.phase_is t h) net)
