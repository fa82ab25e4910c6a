use Rattle.quoting.proofs.quotation.quote_for.Goals as goal
use Rattle.share.proofs.Fairness.{length_shares}
use Rattle.share.specs.Amounts.{energies, moneys}
use Rattle.share.specs.Keys.{totals, weights}
use Rattle.share.specs.Loads.{loads}
use Rattle.share.specs.Shares.{Fair, shares}
use Rattle.std.proofs.lemmas.List.{length-map}
use Rattle.std.proofs.Common.{length, sym, ap, ◌∙◌, subst, rules}

pub returns : goal.returns
returns g c =
    let gs = c.args.generators.now.each.now in
    let ws = weights g.K.Key.weighs (loads gs) in
    let split = c.split_amounts-each.ensures in
    let each = c.of-2.ensures in
    let money = split.money ∙ ap (shares _) c.of.ensures.value in
    record {
      query = c.query_for-query.ensures;
      deviation = search rules ∙ c.deviation.ensures;
      charge = search rules ∙ c.charge.ensures;
      count =
          ap length each ∙ sym (length-map c.split_amounts-each.result.items (λ a. a.money)) ∙ ap length money ∙ length_shares _ ws
          ∙ length-map (loads gs) (λ l. g.K.Key.weighs l (totals (loads gs))) ∙ length-map gs (λ x. x.load);
      money = ap moneys each ∙ money;
      energy = ap energies each ∙ split.energy ∙ ap (shares _) c.of.ensures.value;
      fair_money = subst (Fair _) c.of.ensures.value split.fair.0;
      fair_energy = subst (Fair _) c.of.ensures.value split.fair.1;
    }
