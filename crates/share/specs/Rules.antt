-- By what a day is settled.
use Rattle.std.specs.Prelude.{ℕ, ℤ}
use Rattle.share.specs.declared.key.Key as key
use Rattle.share.specs.declared.load.Load.{Load}
use Rattle.tariff.specs.declared.query.Query.{Query}
use Rattle.tariff.specs.declared.tariff.Tariff as tariff

-- what a tariff charges, and how a key weighs a generator within its station
pub record Rules : Type 0 where
  pub charge : Query → ℤ
  pub weighs : Load → Load → ℕ

-- those of a tariff, and of the keys of a type
abbrev pub rules_of : {T K : Type 0} → tariff.Ghosts T → key.Ghosts K → T → Rules
rules_of prices weights t = record { charge = prices.charge_of t; weighs = weights.weighs }
