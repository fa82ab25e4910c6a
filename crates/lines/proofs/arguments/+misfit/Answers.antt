-- Where the arguments do not fit the sorts.
use denote.Enum.Bare.{same_true}
use Rattle.units.specs.contracts.head.Sort.{the_type}
use Rattle.std.proofs.Common.{◌≡◌, ℕ, suc, ◌+◌, ◌-◌, ◌<◌, List, [], ◌∷◌, map, length, get_or, take, drop, sym, ap, ◌∙◌, subst, add-one, arith, rules, ltb-false, Some, None, Option, MatchOption, IsSomeAnd}
use Rattle.std.proofs.lemmas.List.{take_rest}
use Rattle.grammar.specs.Calls.{Misfit}
use Rattle.lines.specs.Arguments.{part_sort}
use Rattle.tokens.specs.declared.token.Part.{Part}
use Rattle.units.specs.declared.head.Sort.{Sort}
use Rattle.lines.proofs.arguments.+misfit.Goals as goal

fit_more : (ts : List Part) (ss : List Sort) (d : Part) (e : Sort) → 0 < length ts → 0 < length ss → part_sort (get_or ts 0 d) ≡ get_or ss 0 e → map part_sort (take (length ts - 1) (drop 1 ts)) ≡ take (length ss - 1) (drop 1 ss) → map part_sort ts ≡ ss
fit_more [] ss d e h k same rest = absurd (omega arith)
fit_more (t ∷ ts) [] d e h k same rest = absurd (omega arith)
fit_more (t ∷ ts) (s ∷ ss) d e h k same rest =
    let r : map part_sort ts ≡ ss = ap (map part_sort) (sym (take_rest (t ∷ ts) 1)) ∙ rest ∙ take_rest (s ∷ ss) 1 in
    λ i. same i ∷ r i

misfit_more : (ts : List Part) (ss : List Sort) (d : Part) (e : Sort) (p : ℕ) → 0 < length ts → 0 < length ss → part_sort (get_or ts 0 d) ≡ get_or ss 0 e → Misfit (map part_sort (take (length ts - 1) (drop 1 ts))) (take (length ss - 1) (drop 1 ss)) p → Misfit (map part_sort ts) ss (p + 1)
misfit_more [] ss d e p h k same rest = absurd (omega arith)
misfit_more (t ∷ ts) [] d e p h k same rest = absurd (omega arith)
misfit_more (t ∷ ts) (s ∷ ss) d e p h k same rest =
    let m : Misfit (map part_sort ts) ss p =
    subst (λ l. Misfit (map part_sort l) ss p) (take_rest (t ∷ ts) 1) (subst (λ l. Misfit (map part_sort (take (length (t ∷ ts) - 1) (drop 1 (t ∷ ts)))) l p) (take_rest (s ∷ ss) 1) rest) in
    let back : p + 1 - 1 ≡ suc (p - 1) = omega (arith, m.counted) in
    record {
      counted = omega arith;
      before = subst (λ n. take n (part_sort t ∷ map part_sort ts) ≡ take n (s ∷ ss)) (sym back) (λ i. same i ∷ m.before i);
      within = omega (arith, m.within);
      here = λ eq. m.here (ap (drop 1) (subst (λ n. take n (part_sort t ∷ map part_sort ts) ≡ take n (s ∷ ss)) (add-one p) eq));
    }

-- the first arguments are alike, and what is said of the others is one position earlier
fitted : (ts : List Part) (ss : List Sort) (d : Part) (e : Sort) (C : ℕ → ℕ → Type 0) (r s : Option ℕ) → 0 < length ts → 0 < length ss → part_sort (get_or ts 0 d) ≡ get_or ss 0 e → MatchOption r (map part_sort (take (length ts - 1) (drop 1 ts)) ≡ take (length ss - 1) (drop 1 ss)) (Misfit (map part_sort (take (length ts - 1) (drop 1 ts))) (take (length ss - 1) (drop 1 ss))) → MatchOption r (s ≡ None) (λ p. IsSomeAnd s (C p)) → ((p q : ℕ) → C p q → q ≡ p + 1) → MatchOption s (map part_sort ts ≡ ss) (Misfit (map part_sort ts) ss)
fitted ts ss d e C None None h k same rest is next = fit_more ts ss d e h k same rest
fitted ts ss d e C None (Some q) h k same rest is next = let z : ◌≡◌ {A = ℕ} 0 1 = cc in absurd (omega arith)
fitted ts ss d e C (Some p) None h k same rest is next = absurd is
fitted ts ss d e C (Some p) (Some q) h k same rest is next = subst (Misfit (map part_sort ts) ss) (sym (next p q is)) (misfit_more ts ss d e p h k same rest)

pub returns-in-len1-up-len1-up : goal.returns-in-len1-up-len1-up
returns-in-len1-up-len1-up t c =
    fitted c.args.args.now c.args.sorts.now _ _ _ c.misfit.result c.map.result (omega (arith, ltb-false)) (omega (arith, ltb-false))
    (sym c.sort_of.ensures ∙ same_true the_type (search rules) _ _ (sym c.if-eq.ensures)) c.misfit.ensures c.map.ensures.cases (λ p q k. search rules)
