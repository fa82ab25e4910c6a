-- What the tariffs and keys that a request can name mean.
use Rattle.std.specs.Prelude.{ℕ, ℤ}
use Rattle.quoting.specs.declared.choice.KeyChoice.TheVariants.{Units, Capacity}
use Rattle.quoting.specs.declared.choice.KeyChoice.{KeyChoice}
use Rattle.quoting.specs.declared.choice.TariffChoice.TheVariants.{Bands, Rates}
use Rattle.quoting.specs.declared.choice.TariffChoice.{TariffChoice}
use Rattle.quoting.specs.declared.entry.TariffName.TheVariants as name
use Rattle.quoting.specs.declared.entry.TariffName.{TariffName}
use Rattle.share.specs.Keys.{by_capacity, by_units}
use Rattle.share.specs.declared.load.Load.{Load}
use Rattle.tariff.specs.Bands.{banded_charge}
use Rattle.tariff.specs.Rates.{single}
use Rattle.tariff.specs.declared.query.Query.{Query}

abbrev pub charge_by : TariffChoice → Query → ℤ
charge_by (Bands bands) = banded_charge bands
charge_by (Rates rates) = λ q. single rates.export rates.domestic q

abbrev pub weighs_by : KeyChoice → Load → Load → ℕ
weighs_by Units = by_units
weighs_by Capacity = by_capacity

-- A tariff as its line names it.
abbrev pub name_of : TariffChoice → TariffName
name_of (Bands bands) = name.Bands bands
name_of (Rates rates) = name.Rates rates.export rates.domestic
