-- The calls so far were made from the first state, with the answers so far, under one tariff and one key.
use Rattle.std.proofs.Common.{◌≡◌, ◌≤◌, length, take, vec_items, vec_len, vec_capacity}
use Rattle.book.proofs.book.Book.replay.Given as goal
use Rattle.book.specs.Runs.{Run}
use Rattle.book.specs.States.{state}

abbrev pub invariant-loop-call : goal.invariant-loop-call
invariant-loop-call g l =
    Run (state l.initial.self l.initial.pages) (take l.call-index l.calls) (vec_items l.answers) (state l.self l.pages)
    × (vec_len l.answers ≡ l.call-index)
    × (length l.calls ≤ vec_capacity l.answers)
    × (l.self.tariff ≡ l.initial.self.tariff)
    × (l.self.key ≡ l.initial.self.key)
