-- The tariff of one rate each way.
use Rattle.std.specs.Prelude.{ℕ, suc, ◌+◌, ◌*◌, ◌/◌, max, cond, ℤ, pos, negsuc, neg_ℤ, Some, None, Option, nat_lt}
use Rattle.tariff.specs.Charges.{deviation_of, nearest}
use Rattle.tariff.specs.declared.query.Query.{Query}
use Rattle.units.specs.declared.fault.Fault.TheVariants.{HighRate}
use Rattle.units.specs.declared.fault.Fault.{Fault}
use Rattle.units.specs.declared.limits.TheConstants.{HIGHEST_RATE}

-- A deviation below zero costs a quarter of the export rate e for each kW; one above earns 90 percent of a quarter of the domestic rate g.
abbrev pub at_rates : ℕ → ℕ → ℤ → ℤ
at_rates e g (negsuc n) = pos (nearest (e * suc n) 4)
at_rates e g (pos n) = neg_ℤ (pos (nearest (90 * g * n) 400))

abbrev pub single : ℕ → ℕ → Query → ℤ
single e g q = at_rates e g (deviation_of q)

-- The larger of e / 4 and 9 g / 40, rounded up.
abbrev pub larger_rate : ℕ → ℕ → ℕ
larger_rate e g = max ((e + 3) / 4) ((9 * g + 39) / 40)

-- The first of two rates that is above 4,000.
abbrev pub rate_refused : ℕ → ℕ → Option Fault
rate_refused e g = cond (nat_lt HIGHEST_RATE e) (Some (HighRate e)) (cond (nat_lt HIGHEST_RATE g) (Some (HighRate g)) None)
