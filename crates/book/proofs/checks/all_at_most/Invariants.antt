use Rattle.book.proofs.checks.all_at_most.Given as goal
use Rattle.std.proofs.Common.{◌≡◌, ℕ, ◌<◌, ◌≤◌, get_or, take}

abbrev pub invariant-loop-i : goal.invariant-loop-i
invariant-loop-i l =
    (l.kept.items ≡ take l.i l.values)
    × ((k : ℕ) → k < l.i → get_or l.values k 0 ≤ l.limit)
