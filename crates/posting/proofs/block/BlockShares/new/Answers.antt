use Rattle.std.proofs.Common.{get_or, length, pos, sym, ap, ◌∙◌}
use Rattle.posting.proofs.Blocks.{same_amounts}
use Rattle.posting.proofs.block.BlockShares.new.Goals as goal
use Rattle.posting.specs.Amounts.{no_amounts}
use Rattle.share.proofs.Fairness.{length_shares}
use Rattle.share.specs.declared.amounts.Amounts.{Amounts}
use Rattle.std.proofs.Math.ListN.{get_or-map}
use Rattle.std.proofs.lemmas.List.{length-map}
use Rattle.std.specs.Prelude.{List}

pub returns-clause-count : goal.returns-clause-count
returns-clause-count c =
    ap length c.of.ensures ∙ sym (length-map c.split_amounts-each.result.items (λ a. a.money)) ∙ ap length c.split_amounts-each.ensures.money
    ∙ length_shares _ _

pub returns-clause-each : goal.returns-clause-each
returns-clause-each c k =
    let each = c.split_amounts-each.result.items in
    let shares = c.split_amounts-each.ensures in
    ap (λ (xs : List Amounts). get_or xs k no_amounts) c.of.ensures
    ∙ same_amounts
    (sym (get_or-map (λ a. a.money) each k no_amounts) ∙ ap (λ xs. get_or xs k (pos 0)) shares.money)
    (sym (get_or-map (λ a. a.energy) each k no_amounts) ∙ ap (λ xs. get_or xs k (pos 0)) shares.energy)
