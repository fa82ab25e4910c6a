-- Which station has a generator.
use Rattle.std.proofs.Common.{◌≡◌, ℕ, zero, suc, ◌+◌, ◌-◌, ◌<◌, ◌≤◌, List, [], ◌∷◌, length, get_or, take, sum, ⊎_elim, arith}
use Rattle.book.specs.States.{nobody, reaches}
use Rattle.book.specs.declared.station.Station.{Station}
use Rattle.std.proofs.lemmas.Bool.{cases_lt, le-ltb, lt-ltb}
use Rattle.std.proofs.lemmas.List.Sums.{position_or_len_is, sum_by-cons, sum_by_more_le}
use Rattle.std.specs.List.{position_or_len}

-- a station's generators end where those of a later one begin, or before
ends : (cs : List ℕ) (k t : ℕ) → k < t → sum (take k cs) + get_or cs k 0 ≤ sum (take t cs)
ends cs k zero h = absurd (omega arith)
ends [] zero (suc t) h = omega arith
ends [] (suc k) (suc t) h = omega arith
ends (c ∷ cs) zero (suc t) h = omega (arith, sum_by-cons (λ (x : ℕ). x) c (take t cs))
ends (c ∷ cs) (suc k) (suc t) h = omega (arith, sum_by-cons (λ (x : ℕ). x) c (take k cs), sum_by-cons (λ (x : ℕ). x) c (take t cs), ends cs k t (omega arith))

-- and no later than all generators
pub ends_all : (cs : List ℕ) (t : ℕ) → t < length cs → sum (take t cs) + get_or cs t 0 ≤ sum cs
ends_all cs t h = sum_by_more_le (λ (x : ℕ). x) cs t 0 h

-- generator g is one of station t's
pub record Within (cs : List ℕ) (g t : ℕ) : Type 0 where
  pub station : t < length cs
  pub low : sum (take t cs) ≤ g
  pub high : g < sum (take t cs) + get_or cs t 0

-- each generator is one of some station
pub find : (cs : List ℕ) (g : ℕ) → g < sum cs → (t : ℕ) × Within cs g t
find [] g h = absurd (omega arith)
find (c ∷ cs) g h = ⊎_elim
    (λ (l : g < c). (0, record { station = omega arith; low = omega arith; high = omega arith }))
    (λ (l : c ≤ g).
    let r = find cs (g - c) (omega (arith, sum_by-cons (λ (x : ℕ). x) c cs)) in
    let s = sum_by-cons (λ (x : ℕ). x) c (take r.0 cs) in
    let w = r.1 in
    (suc r.0, record { station = omega (arith, w.station); low = omega (arith, w.low, s); high = omega (arith, w.high, s) }))
    (cases_lt g c)

pub in_all : (cs : List ℕ) (g t : ℕ) → Within cs g t → g < sum cs
in_all cs g t w = omega (arith, w.high, ends_all cs t w.station)

-- it is found there
pub owner_at : (ss : List Station) (cs : List ℕ) (g t : ℕ) → length ss ≡ length cs
    → ((k : ℕ) → k < length cs → (get_or ss k nobody).plant.members.first ≡ sum (take k cs))
    → ((k : ℕ) → k < length cs → (get_or ss k nobody).plant.members.count ≡ get_or cs k 0)
    → Within cs g t → position_or_len (reaches g) ss ≡ t
owner_at ss cs g t many first count w =
    let h = w.station in
    position_or_len_is (reaches g) ss t nobody (omega arith)
    (λ k l.
    let a = first k (omega arith) in
    let b = count k (omega arith) in
    le-ltb g _ (omega (arith, a, b, ends cs k t l, w.low)))
    (λ l.
    let a = first t h in
    let b = count t h in
    lt-ltb g _ (omega (arith, a, b, w.high)))

-- so it is no other station's
pub one_owner : (cs : List ℕ) (g t u : ℕ) → Within cs g t → Within cs g u → t ≡ u
one_owner cs g t u w v = ⊎_elim
    (λ (l : t < u). absurd (omega (arith, ends cs t u l, w.high, v.low)))
    (λ (l : u ≤ t). ⊎_elim
    (λ (m : u < t). absurd (omega (arith, ends cs u t m, v.high, w.low)))
    (λ (m : t ≤ u). omega arith)
    (cases_lt u t))
    (cases_lt t u)
