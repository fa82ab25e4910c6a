-- One due and one share more, and all of them.
use Rattle.std.proofs.Common.{◌≡◌, ℕ, get_or, pos, vec_items, ap, ◌∙◌, arith, w64, SFits, rules}
use Rattle.book.specs.States.{nobody}
use Rattle.book.specs.Stations.{due_of}
use Rattle.share.specs.declared.amounts.Amounts.{Amounts}
use Rattle.posting.specs.Days.{no_account}
use Rattle.settle_bench.proofs.Writes.{written}
use Rattle.settle_bench.proofs.report.Goals as goal
use Rattle.settle_bench.specs.Reports.{nothing}
use Rattle.settle_bench.specs.declared.shares.Shares.{Shares}
use Rattle.std.proofs.lemmas.Int.{to_z-of_z}

abbrev share_of : Amounts → Shares
share_of a = record { money = a.money; energy = a.energy }

pub loop-t-preserved : goal.loop-t-preserved
loop-t-preserved c =
    let z = c.in_ok-due.field-0 in
    let fits : SFits w64 z = search rules in
    written (λ t. due_of (get_or c.args.book.now.stations.items t nobody).balance) c.loop-t.dues c.loop-t.t _ (pos 0) (omega arith) c.loop-t.invariant (to_z-of_z w64 z fits ∙ c.in_ok-due.ensures.1)

pub loop-g-preserved : goal.loop-g-preserved
loop-g-preserved c =
    let a = c.in_ok-account.field-0 in
    let is = c.in_ok-account.ensures.1 in
    let accounts = vec_items c.args.pages.now.accounts in
    let share : ℕ → Shares = λ g. record { money = (get_or accounts g no_account).money; energy = (get_or accounts g no_account).energy } in
    let same : share_of a ≡ share c.loop-g.g = ap share_of is in
    written share c.loop-g.shares c.loop-g.g c.from.result nothing (omega arith) c.loop-g.invariant (c.from.ensures ∙ same)

pub returns : goal.returns
returns c = record {
  due = λ t l. c.loop-t.invariant t (omega arith);
  share = λ g l. c.loop-g.invariant g (omega arith);
}
