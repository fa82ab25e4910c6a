-- The limits of the rules, in numbers.
use Rattle.std.specs.Prelude.{◌≡◌}
use Rattle.units.specs.declared.limits.TheConstants.{ALL_GENERATORS, BLOCKS, FIRST_SOLAR_NOTICE, GENERATORS, GENERATOR_KW, HIGHEST_CEILING, HIGHEST_RATE, HIGHEST_UNDER_PENALTY, LAST_NOTICE, LAST_SOLAR_NOTICE, LEAST_INSTALLED, MOST_AMOUNT, MOST_CASH, MOST_INSTALLED, PENALTY_FACTOR, REVISION_LEAD, SLOT_BLOCKS, SOLAR_SLOTS, STATIONS, STATION_KW, WIND_SLOTS}

pub record LimitsOfTheRules : Type 0 where
  pub blocks : BLOCKS ≡ 96
  pub stations : STATIONS ≡ 16
  -- of a station, and of a book
  pub generators : GENERATORS ≡ 32
  pub all_generators : ALL_GENERATORS ≡ 512
  -- in kW
  pub generator : GENERATOR_KW ≡ 200000
  pub station : STATION_KW ≡ 6400000
  pub least_installed : LEAST_INSTALLED ≡ 1000
  pub most_installed : MOST_INSTALLED ≡ 200000
  -- in paise, for a kWh and for a kW of deviation in a block
  pub rate : HIGHEST_RATE ≡ 4000
  pub ceiling : HIGHEST_CEILING ≡ 10000
  pub factor : PENALTY_FACTOR ≡ 3
  pub under_penalty : HIGHEST_UNDER_PENALTY ≡ 3333
  -- in paise
  pub amount : MOST_AMOUNT ≡ 1000000000000
  pub cash : MOST_CASH ≡ 1000000000000000
  -- of revisions, in blocks, and how many slots there are
  pub lead : REVISION_LEAD ≡ 3
  pub last_notice : LAST_NOTICE ≡ 92
  pub first_solar : FIRST_SOLAR_NOTICE ≡ 22
  pub last_solar : LAST_SOLAR_NOTICE ≡ 75
  pub slot : SLOT_BLOCKS ≡ 6
  pub wind_slots : WIND_SLOTS ≡ 16
  pub solar_slots : SOLAR_SLOTS ≡ 9
