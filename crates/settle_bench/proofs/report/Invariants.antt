-- The dues so far, and then the shares so far.
use Rattle.std.proofs.Common.{◌≡◌, ℕ, ◌<◌, get_or, pos, vec_items}
use Rattle.book.specs.States.{nobody}
use Rattle.book.specs.Stations.{due_of}
use Rattle.posting.specs.Days.{no_account}
use Rattle.settle_bench.proofs.report.Given as goal
use Rattle.settle_bench.specs.Reports.{nothing}

abbrev pub invariant-loop-t : goal.invariant-loop-t
invariant-loop-t l = (t : ℕ) → t < l.t → get_or l.dues t (pos 0) ≡ due_of (get_or l.book.stations.items t nobody).balance

abbrev pub invariant-loop-g : goal.invariant-loop-g
invariant-loop-g l = (g : ℕ) → g < l.g → get_or l.shares g nothing ≡ record { money = (get_or (vec_items l.pages.accounts) g no_account).money; energy = (get_or (vec_items l.pages.accounts) g no_account).energy }
