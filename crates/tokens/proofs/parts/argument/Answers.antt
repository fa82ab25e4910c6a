use Rattle.std.proofs.Common.{ℕ, ◌+◌, ◌-◌, List, length, take, drop, refl, ap, arith}
use Rattle.tokens.proofs.Pieces.{argued_number, argued_list, front_is}
use Rattle.grammar.specs.Grammar.{list}
use Rattle.std.proofs.lemmas.List.{take_rest}
use Rattle.tokens.proofs.parts.argument.Goals as goal

pub returns-in_ok-n-in-40 : goal.returns-in_ok-n-in-40
returns-in_ok-n-in-40 c =
    let rest : List ℕ = c.args.rest.now in
    let tail : List ℕ = take (length rest - 1) (drop 1 rest) in
    let n : ℕ = c.in_ok-n-in-40.n in
    argued_list rest _ _ n (omega arith) (omega arith) c.in_ok-n-in-40.ensures (ap list (front_is n tail)) (take_rest tail (n + 1))

pub returns-in-Some : goal.returns-in-Some
returns-in-Some c = argued_number _ _ _ _ refl c.in-Some.ensures
