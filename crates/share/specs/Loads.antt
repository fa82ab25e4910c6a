-- The generators of a station in one block, by their numbers.
use Rattle.std.specs.Prelude.{ℕ, ◌<◌, ◌≤◌, min, max, List, map, length}
use Rattle.share.specs.declared.generator.Generator.{Generator}
use Rattle.share.specs.declared.load.Load.{Load}
use Rattle.units.specs.declared.limits.TheConstants.{GENERATORS, GENERATOR_KW, LEAST_INSTALLED, MOST_INSTALLED}

-- 1,000 to 200,000 kW are installed
abbrev pub nearest_installed : ℕ → ℕ
nearest_installed n = max LEAST_INSTALLED (min n MOST_INSTALLED)

-- each number as the nearest one allowed: no capacity is above what is installed, and no actual
-- above 200,000 kW
abbrev pub nearest_load : ℕ → ℕ → ℕ → Load
nearest_load installed capacity actual = record {
  actual = min actual GENERATOR_KW;
  capacity = min capacity (nearest_installed installed);
  installed = nearest_installed installed;
}

abbrev pub loads : List Generator → List Load
loads gs = map (λ g. g.load) gs

-- a station has 1 to 32 generators
abbrev pub Few : List Generator → Type 0
Few gs = (0 < length gs) × (length gs ≤ GENERATORS)
