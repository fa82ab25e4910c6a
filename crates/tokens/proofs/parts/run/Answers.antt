use Rattle.std.proofs.Common.{◌≡◌, ℕ, zero, suc, ◌+◌, ◌<◌, length, true, false, cond, List, [], ◌∷◌, take, refl, sym, ◌∙◌, subst, one-add, arith, rules}
use borrow.Author.Tests.{tests}
use Rattle.std.specs.List.{prefix_len, take_while}
use Rattle.std.specs.Int.{is_in_range}
use Rattle.std.proofs.lemmas.Bool.{and_from}
use Rattle.std.proofs.lemmas.Bool.Decides.{nat_tests}
use Rattle.std.proofs.lemmas.List.Folds.{length-prefix_len}
use Rattle.std.proofs.lemmas.Iterator.{YieldsList-from_slice, YieldsList-from_take}
use Rattle.std.proofs.lemmas.Iterator.Search.{YieldsList-from_take_while}
use Rattle.std.proofs.lemmas.Iterator.Consumers.{count_from_yields_List}
use Rattle.tokens.specs.Pieces.{Run}
use Rattle.tokens.proofs.parts.run.Goals as goal

none_at_the_end : (lo hi : ℕ) → 0 < lo → is_in_range lo hi 0 ≡ false
none_at_the_end lo hi low = grind (arith, nat_tests)

-- what passes of the first `most` bytes
run_is : (lo hi most : ℕ) (bs : List ℕ) → 0 < lo → Run lo hi most bs (prefix_len (is_in_range lo hi) (take most bs))
run_is lo hi zero bs low = record { in_bytes = omega arith; few = omega arith; all = refl; stops = λ h. absurd (omega arith) }
run_is lo hi (suc most) [] low = record { in_bytes = omega arith; few = omega arith; all = refl; stops = λ h. none_at_the_end lo hi low }
run_is lo hi (suc most) (b ∷ bs) low =
    let more = run_is lo hi most bs low in
    (elim (is_in_range lo hi b) as (λ t. is_in_range lo hi b ≡ t → Run lo hi (suc most) (b ∷ bs) (cond t (1 + prefix_len (is_in_range lo hi) (take most bs)) 0)) [
      | true ↦ λ e. record { in_bytes = omega (arith, more.in_bytes); few = omega (arith, more.few); all = rw one-add (and_from _ _ e more.all); stops = λ h. rw one-add (more.stops (omega arith)) }
      | false ↦ λ e. record { in_bytes = omega arith; few = omega arith; all = refl; stops = λ h. e }
    ]) refl

pub returns : goal.returns
returns c =
    let test = is_in_range c.args.low c.args.high in
    let front = take c.args.most c.args.rest.now in
    let e : c.count.result ≡ length (take_while test front) =
    count_from_yields_List _ c.count.result c.count.ensures.ran (YieldsList-from_take_while _ test (YieldsList-from_take c.args.most (YieldsList-from_slice c.args.rest.now (cc)) (cc)) c.take_while.ensures.closure c.take_while.ensures.done (λ x b q k. search (rules, tests))) in
    subst (Run c.args.low c.args.high c.args.most c.args.rest.now) (sym (e ∙ length-prefix_len test front)) (run_is c.args.low c.args.high c.args.most c.args.rest.now c.requires)
