use Rattle.std.proofs.Common.{◌≡◌, ℕ, ◌+◌, ◌-◌, ◌*◌, List, [], ◌∷◌, ◌++◌, map, refl, ap, sym, ◌∙◌, Bor, Iter, rules}
use Rattle.std.specs.Iterator.{Yields}
use Rattle.std.proofs.lemmas.Fn.{fronts, serves_by}
use Rattle.std.proofs.lemmas.Iterator.{YieldsList-from_slice}
use Rattle.std.proofs.lemmas.Iterator.Consumers.{fold_from_yields_List}
use Rattle.std.proofs.lemmas.List.{map_push}
use Rattle.grammar.specs.Calls.{read_on}
use Rattle.lines.proofs.Figures.{read_on_push, before_digit, folded}
use Rattle.lines.proofs.values.value.Goals as goal

-- what the iterator gave, and what it has left
gave : (s t : Iter ℕ) (xs : List (Bor ℕ)) → Yields fronts s xs t → s.rest.now ≡ map (λ x. x.now) xs ++ t.rest.now
gave s t [] y = ap (λ i. i.rest.now) y
gave s t (x ∷ xs) y = y.1 ∙ ap (λ l. x.now ∷ l) (gave y.0 t xs y.2)

pub fold-requires-clause-callable : goal.fold-requires-clause-callable
fold-requires-clause-callable c =
    serves_by _ (λ xs q. q.1 ≡ read_on 0 (map (λ x. x.now) xs))
    (λ xs q x v j r.
    let next : v.1 ≡ 10 * q.1 + (x.now - 48) = search rules in
    next ∙ ap (λ n. 10 * n + (x.now - 48)) j ∙ sym (read_on_push 0 (map (λ x. x.now) xs) x.now) ∙ ap (read_on 0) (sym (map_push (λ (x : Bor ℕ). x.now) xs x)))
    _ _ _ _ refl
    (λ xs t q x u y st j.
    let bounds = before_digit c.args.digits.now (map (λ x. x.now) xs) u.rest.now x.now q.1 c.requires (sym c.iter.ensures.rest ∙ gave c.iter.result t xs y ∙ ap (λ l. map (λ x. x.now) xs ++ l) st) j in
    search rules)

pub returns : goal.returns
returns c =
    fold_from_yields_List _ (λ n d. 10 * n + (d - 48)) 0 c.fold.result c.fold.ensures.ran (YieldsList-from_slice c.args.digits.now (cc)) (λ n x b q k. search rules)
    ∙ folded 0 c.args.digits.now
