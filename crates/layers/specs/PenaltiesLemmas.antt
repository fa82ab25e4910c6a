-- What a penalty keeps of the laws below it.
use Rattle.std.specs.Prelude.{◌≡◌, ℕ, zero, suc, ◌+◌, ◌*◌, ◌<◌, ◌≤◌, ◌↔◌, Bool, true, false, cond, List, [], ◌∷◌, drop, length, ℤ, pos, negsuc, Some, None, Option, IfSome, refl, is_none, ◌==◌, nat_lt, slice_index_or, unsigned_abs}
use Rattle.layers.specs.Penalties.{AreCapacities, MayStand, applies, at_capacity, bad_capacity, corrected, due_capacity, first_one_above, multiplied, penal, penalty_refused, raised}
use Rattle.std.proofs.Common.{add-one, ap, sym, ◌∙◌, arith, drop-cons, mul_assoc}
use Rattle.std.proofs.lemmas.Bool.{cond-false, cond-true, cond_both, le-ltb, lt-ltb, ltb-false}
use Rattle.tariff.specs.Charges.{magnitude}
use Rattle.tariff.specs.Ranges.{IsInRange}
use Rattle.tariff.specs.RangesLemmas.{in_range-true}
use Rattle.tariff.specs.declared.query.Query.{Query}
use Rattle.units.specs.declared.fault.Fault.TheVariants.{BadPenalty}
use Rattle.units.specs.declared.fault.Fault.{Fault}
use Rattle.units.specs.declared.limits.TheConstants.{HIGHEST_UNDER_PENALTY, PENALTY_FACTOR, STATION_KW}

-- A capacity that a station can have, if there is one.
abbrev IsLow : Option ℕ → Type 0
IsLow o = IfSome o (λ kw. kw ≤ STATION_KW)

goes_on : (b : Bool) (x : ℕ) (o : Option ℕ) → cond b (Some x) o ≡ None → (b ≡ false) × (o ≡ None)
goes_on true x o h = absurd cc
goes_on false x o h = (refl, h)

-- the first capacity that is too high, entry by entry
module _ (due : List (Option ℕ)) (i : ℕ) (within : i < length due) (so_far : first_one_above due ≡ first_one_above (drop i due)) where
  next : (o : Option ℕ) → slice_index_or due i None ≡ o → first_one_above due ≡ first_one_above (o ∷ drop (i + 1) due)
  next o here =
      let e : drop i due ≡ o ∷ drop (i + 1) due = rw add-one (drop-cons due i None within ∙ ap (λ x. x ∷ drop (suc i) due) here) in
      so_far ∙ ap first_one_above e

  pub found : (kw : ℕ) → slice_index_or due i None ≡ Some kw → STATION_KW < kw → Some kw ≡ first_one_above due
  found kw here over = sym (next (Some kw) here ∙ cond-true _ _ _ (lt-ltb STATION_KW kw over))

  pub passed : (kw : ℕ) → slice_index_or due i None ≡ Some kw → kw ≤ STATION_KW → first_one_above due ≡ first_one_above (drop (i + 1) due)
  passed kw here small = next (Some kw) here ∙ cond-false _ _ _ (le-ltb STATION_KW kw small)

  pub skipped : slice_index_or due i None ≡ None → first_one_above due ≡ first_one_above (drop (i + 1) due)
  skipped here = next None here

-- where no capacity is too high, none is at any block
pub entry_low : (due : List (Option ℕ)) (i : ℕ) → first_one_above due ≡ None → IfSome (slice_index_or due i None) (λ kw. kw ≤ STATION_KW)
entry_low [] i none = tt
entry_low (None ∷ due) zero none = tt
entry_low (None ∷ due) (suc i) none = entry_low due i none
entry_low (Some kw ∷ due) zero none = ltb-false _ _ (goes_on (nat_lt STATION_KW kw) kw (first_one_above due) none).0
entry_low (Some kw ∷ due) (suc i) none = entry_low due i (goes_on (nat_lt STATION_KW kw) kw (first_one_above due) none).1

pub none_above : (due : List (Option ℕ)) → AreCapacities due → first_one_above due ≡ None
none_above [] low = refl
none_above (None ∷ due) low = none_above due (record { each = λ i. low.each (suc i) })
none_above (Some kw ∷ due) low = cond-false _ _ _ (le-ltb STATION_KW kw (low.each 0)) ∙ none_above due (record { each = λ i. low.each (suc i) })

no_reason : (b : Bool) (f : Fault) (o : Option ℕ) → cond b (Some f) (bad_capacity o) ≡ None → (b ≡ false) × (o ≡ None)
no_reason true f o h = absurd cc
no_reason false f None h = (refl, refl)
no_reason false f (Some kw) h = absurd cc

-- there is no reason against a penalty exactly where it may stand
pub penalty_refused-none : (ceiling : ℕ) (due : List (Option ℕ)) → (penalty_refused ceiling due ≡ None) ↔ MayStand ceiling due
penalty_refused-none ceiling due = (stands, λ m. cond-false _ _ _ (le-ltb HIGHEST_UNDER_PENALTY ceiling (omega (arith, m.low))) ∙ ap bad_capacity (none_above due m.capacities)) where
  stands : penalty_refused ceiling due ≡ None → MayStand ceiling due
  stands h =
      let none = no_reason (nat_lt HIGHEST_UNDER_PENALTY ceiling) (BadPenalty ceiling) (first_one_above due) h in
      record { low = omega (arith, ltb-false HIGHEST_UNDER_PENALTY ceiling none.0); capacities = record { each = λ block. entry_low due block none.1 } }

none_is : (o : Option Fault) → is_none o ≡ true → o ≡ None
none_is None h = refl
none_is (Some f) h = absurd cc

-- where a penalty applies, no capacity that is due is too high
applied_low : (ceiling station : ℕ) (due : List (Option ℕ)) (q : Query) → applies ceiling due ≡ true → IsLow (due_capacity station due q)
applied_low ceiling station due q h =
    let m = (penalty_refused-none ceiling due).0 (none_is (penalty_refused ceiling due) h) in
    cond_both (q.station == station) _ None IsLow (λ _. m.capacities.each q.block) (λ _. tt)

-- the question at a capacity that a station can have
at_low : (q : Query) (kw : ℕ) → IsInRange q → kw ≤ STATION_KW → IsInRange (at_capacity kw q)
at_low q kw r low = record { schedule = r.schedule; actual = r.actual; capacity = low }

multiplied_bounded : (z : ℤ) → unsigned_abs (multiplied z) ≤ PENALTY_FACTOR * unsigned_abs z
multiplied_bounded (pos n) = omega arith
multiplied_bounded (negsuc n) = omega arith

module _ (ceiling : ℕ) (below : Query → ℤ) (bounded : (q : Query) → IsInRange q → unsigned_abs (below q) ≤ ceiling * magnitude q) where
  corrected_bounded : (o : Option ℕ) (q : Query) → IsInRange q → IsLow o → unsigned_abs (corrected o below q) ≤ PENALTY_FACTOR * ceiling * magnitude q
  corrected_bounded None q r low = omega (arith, bounded q r, mul_assoc PENALTY_FACTOR ceiling (magnitude q))
  corrected_bounded (Some kw) q r low =
      let there : unsigned_abs (below (at_capacity kw q)) ≤ ceiling * magnitude q = bounded (at_capacity kw q) (at_low q kw r low) in
      omega (arith, multiplied_bounded (below (at_capacity kw q)), there, mul_assoc PENALTY_FACTOR ceiling (magnitude q))

  bounded_at : (b : Bool) (o : Option ℕ) (q : Query) → IsInRange q → (b ≡ true → IsLow o) →
      unsigned_abs (cond b (corrected o below q) (below q)) ≤ cond b (PENALTY_FACTOR * ceiling) ceiling * magnitude q
  bounded_at true o q r low = corrected_bounded o q r (low refl)
  bounded_at false o q r low = bounded q r

  pub penal_bounded : (station : ℕ) (due : List (Option ℕ)) (q : Query) → IsInRange q →
      unsigned_abs (penal ceiling station due below q) ≤ raised ceiling due * magnitude q
  penal_bounded station due q r =
      rw ((in_range-true q).1 r) (bounded_at (applies ceiling due) (due_capacity station due q) q r (applied_low ceiling station due q))

module _ (ceiling : ℕ) (below : Query → ℤ) (settled : (q : Query) → IsInRange q → q.actual ≡ q.schedule → below q ≡ pos 0) where
  settled_at : (b : Bool) (o : Option ℕ) (q : Query) → IsInRange q → (b ≡ true → IsLow o) → q.actual ≡ q.schedule →
      cond b (corrected o below q) (below q) ≡ pos 0
  settled_at true None q r low h = settled q r h
  settled_at true (Some kw) q r low h = rw (settled (at_capacity kw q) (at_low q kw r (low refl)) h)
  settled_at false o q r low h = settled q r h

  pub penal_settled : (station : ℕ) (due : List (Option ℕ)) (q : Query) → IsInRange q → q.actual ≡ q.schedule →
      penal ceiling station due below q ≡ pos 0
  penal_settled station due q r h =
      rw ((in_range-true q).1 r) (settled_at (applies ceiling due) (due_capacity station due q) q r (applied_low ceiling station due q) h)
