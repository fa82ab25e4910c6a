use Rattle.std.proofs.Common.{◌≡◌, ℕ, ◌≤◌, List, [], ltb, cond, length, Some, None, Option, MatchOption, ap, ◌∙◌, arith, rules}
use borrow.Author.Tests.{tests}
use Rattle.std.specs.List.{position_or_len}
use Rattle.std.proofs.lemmas.Bool.Decides.{nat_tests}
use Rattle.std.proofs.lemmas.Iterator.{YieldsList-from_slice}
use Rattle.std.proofs.lemmas.Iterator.Search.{position_from_yields_List}
use Rattle.tokens.specs.declared.token.Part.{Part}
use Rattle.units.specs.Calls.{list_in}
use Rattle.lines.specs.Arguments.{first_list, is_list, said_at, values_of}
use Rattle.lines.proofs.Taking.{first_list_at, no_list}
use Rattle.lines.proofs.values.place_of_list.Goals as goal

found : (n m k : ℕ) → Some k ≡ cond (ltb n m) (Some n) None → n ≡ k
found n m k e = grind (arith, nat_tests)

none_found : (n m : ℕ) → None ≡ cond (ltb n m) (Some n) None → m ≤ n
none_found n m e = grind (arith, nat_tests)

placed : (args : List Part) (r : Option ℕ) → r ≡ cond (ltb (position_or_len is_list args) (length args)) (Some (position_or_len is_list args)) None → MatchOption r (first_list (values_of args) ≡ []) (λ k. first_list (values_of args) ≡ list_in (said_at args k))
placed args None e = no_list args (none_found _ (length args) e)
placed args (Some k) e = first_list_at args ∙ ap (λ k. list_in (said_at args k)) (found _ (length args) _ e)

pub returns : goal.returns
returns c =
    let args = c.args.args.now in
    placed args _ (position_from_yields_List is_list _ _ c.position.result c.position.ensures.ran (YieldsList-from_slice args cc) (λ x b q k. search (rules, tests)))
