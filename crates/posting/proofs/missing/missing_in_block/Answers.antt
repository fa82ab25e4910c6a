use Rattle.std.proofs.Common.{rules, ◌+◌, refl, arith}
use borrow.Author.Tests.{tests}
use Rattle.posting.proofs.Search.{in_found}
use Rattle.posting.proofs.missing.missing_in_block.Goals as goal
use Rattle.posting.specs.Missing.{missing_at}
use Rattle.std.proofs.lemmas.Iterator.{YieldsList-from_map, YieldsList-from_range}
use Rattle.std.proofs.lemmas.Iterator.Search.{find_from_yields_List}

pub returns : goal.returns
returns c =
    let rs = c.args.readings.now in
    let ex = c.args.except in
    let m = c.args.members in
    in_found rs ex c.args.block m.first m.count c.find.result
    (find_from_yields_List (λ p. missing_at rs ex p.generator p.block) _ _ c.find.result c.find.ensures.ran
    (YieldsList-from_map _ (λ g. record { generator = g; block = c.args.block }) (YieldsList-from_range m.first (m.first + m.count) m.count (search rules) (omega arith)) refl (λ x r q k. search rules)) (λ x b q k. search (rules, tests)))
