-- What a block costs a station, and what each of its generators bears.
use Rattle.std.specs.Prelude.{◌≡◌, ℕ, List, length}
use Rattle.quoting.specs.declared.quotation.Quotation.{Quotation}
use Rattle.share.specs.Amounts.{energies, listed, moneys}
use Rattle.share.specs.Keys.{totals, weights}
use Rattle.share.specs.Loads.{loads}
use Rattle.share.specs.Rules.{Rules}
use Rattle.share.specs.Shares.{Fair, shares}
use Rattle.share.specs.declared.generator.Generator.{Generator}
use Rattle.share.specs.declared.load.Load.{Load}
use Rattle.tariff.specs.Charges.{deviation_of}
use Rattle.tariff.specs.declared.query.Query.{Query}

-- What the tariff is asked of: station 0 in block 0, its actual and its capacity the sums over the generators.
abbrev pub asked : ℕ → List Load → Query
asked schedule ls =
    record { station = 0; block = 0; schedule = schedule; actual = (totals ls).actual; capacity = (totals ls).capacity }

-- The quote r for a schedule and these generators, by these rules.
pub record Quoted (rules : Rules) (schedule : ℕ) (gs : List Generator) (r : Quotation) : Type 0 where
  pub query : r.query ≡ asked schedule (loads gs)
  -- the actual less the schedule
  pub deviation : r.owed.energy ≡ deviation_of r.query
  pub charge : r.owed.money ≡ rules.charge r.query
  -- each generator's money is its share of the charge, and its energy that of the deviation
  pub count : length (listed r.each) ≡ length gs
  pub money : moneys (listed r.each) ≡ shares r.owed.money (weights rules.weighs (loads gs))
  pub energy : energies (listed r.each) ≡ shares r.owed.energy (weights rules.weighs (loads gs))
  -- the shares add up to the amount, and each lies less than one unit from its exact proportion
  pub fair_money : Fair r.owed.money (weights rules.weighs (loads gs))
  pub fair_energy : Fair r.owed.energy (weights rules.weighs (loads gs))
