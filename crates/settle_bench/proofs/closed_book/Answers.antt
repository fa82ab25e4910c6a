-- Each call leaves the stations' generators and what they have paid.
use Rattle.book.specs.States.{state}
use Rattle.settle_bench.proofs.Opening.{opened_sixteen, through}
use Rattle.settle_bench.proofs.closed_book.Goals as goal
use Rattle.std.proofs.Common.{◌∙◌}

pub loop-t-init : goal.loop-t-init
loop-t-init c =
    let opening = c.full_opening-opening.ensures in
    let opened = c.in_ok-book.ensures in
    (opened.tariff_is, opened_sixteen _ _ _ opening.wind opening.full opened.stations)

pub loop-t-preserved : goal.loop-t-preserved
loop-t-preserved c = (
  c.close.ensures.tariff ∙ c.issue.ensures.tariff ∙ c.file.ensures.tariff ∙ c.loop-t.invariant.0,
  through c.loop-t.t (state c.loop-t.book c.loop-t.pages) (state c.file.new.self c.file.new.pages) (state c.issue.new.self c.issue.new.pages) (state c.close.new.self c.close.new.pages) _ _ _
      c.loop-t-test.true c.file.ensures.does c.in_ok-file.was c.issue.ensures.does c.in_ok-issue.was c.close.ensures.does c.in_ok-close.was
      c.loop-t.invariant.1,
)
