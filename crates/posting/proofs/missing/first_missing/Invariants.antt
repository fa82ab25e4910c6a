use Rattle.std.proofs.Common.{◌≡◌, ◌+◌, ◌-◌, None}
use Rattle.posting.proofs.missing.first_missing.Given as goal
use Rattle.posting.specs.Missing.{first_missing_of, missing_from, missing_in}
use Rattle.std.specs.Option.{option_or}
use Rattle.units.specs.declared.limits.TheConstants.{BLOCKS}

-- what is left gives the answer
abbrev pub invariant-blocks-2 : goal.invariant-blocks-2
invariant-blocks-2 l = (l.missing ≡ None) × (missing_from l.readings l.except l.members l.block (BLOCKS - l.block) ≡ first_missing_of l.readings l.except l.members)

abbrev pub invariant-loop-generator : goal.invariant-loop-generator
invariant-loop-generator l =
    (l.missing ≡ None) × (l.generator-iterator.end ≡ l.members.first + l.members.count)
    × (option_or (missing_in l.readings l.except l.block l.generator-iterator.start (l.members.first + l.members.count - l.generator-iterator.start)) (missing_from l.readings l.except l.members (l.block + 1) (BLOCKS - (l.block + 1)))
    ≡ first_missing_of l.readings l.except l.members)
