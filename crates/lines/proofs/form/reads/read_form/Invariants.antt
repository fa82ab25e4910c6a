use Rattle.std.proofs.Common.{◌≡◌, ◌+◌, ◌≤◌, length}
use Rattle.lines.proofs.Whole.{Gathered}
use Rattle.lines.proofs.form.reads.read_form.Given as goal

abbrev pub invariant-loop-token : goal.invariant-loop-token
invariant-loop-token l =
    (l.reader.line.now ≡ l.line)
    × (l.count + length l.reader.rest.now ≤ length l.line)
    × Gathered l.line l.letters l.args.items l.count l.reader.rest.now

abbrev pub decreases-loop-token : goal.decreases-loop-token
decreases-loop-token l = length l.reader.rest.now
