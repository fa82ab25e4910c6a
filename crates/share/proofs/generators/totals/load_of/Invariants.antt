use Rattle.std.proofs.Common.{◌≡◌, ◌*◌, ◌≤◌, take}
use Rattle.share.proofs.generators.totals.load_of.Given as goal
use Rattle.share.specs.Keys.{totals}
use Rattle.share.specs.Loads.{loads}
use Rattle.units.specs.declared.limits.TheConstants.{GENERATOR_KW}

abbrev pub invariant-loop-generator : goal.invariant-loop-generator
invariant-loop-generator l =
    (l.sums ≡ totals (loads (take l.generator-index l.each)))
    × (l.sums.actual ≤ GENERATOR_KW * l.generator-index)
    × (l.sums.capacity ≤ GENERATOR_KW * l.generator-index)
    × (l.sums.installed ≤ GENERATOR_KW * l.generator-index)
