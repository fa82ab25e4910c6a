-- Each turn settles one station more.
use Rattle.std.proofs.Common.{◌≡◌, ℕ, ap, ◌∙◌, subst, arith}
use Rattle.posting.specs.Sheets.{sheet_of}
use Rattle.book.specs.States.{state}
use Rattle.share.specs.Rules.{Rules}
use Rattle.settle_bench.proofs.Settling.{none_done, settle_more}
use Rattle.settle_bench.proofs.settle_all.Goals as goal
use Rattle.settle_bench.specs.Full.{DoneTo}
use Rattle.share.specs.Keys.{by_units}
use Rattle.tariff.specs.Bands.{banded_charge}
use Rattle.tariff.specs.declared.banded.Banded.{Banded}
use Rattle.units.specs.declared.limits.TheConstants.{STATIONS}

-- the rules of a book under these bands
abbrev under : Banded → Rules
under bands = record { charge = banded_charge bands; weighs = by_units }

pub loop-t-init : goal.loop-t-init
loop-t-init c = (c.requires.tariff, none_done _ _ c.requires.full)

pub loop-t-preserved : goal.loop-t-preserved
loop-t-preserved c =
    let t = c.loop-t.t in
    let z = state c.loop-t.book c.loop-t.pages in
    let after = state c.settle.new.self c.settle.new.pages in
    let r = c.settle.result in (
      c.settle.ensures.tariff ∙ c.loop-t.invariant.0,
      settle_more (sheet_of c.args.pages.now) z after r t c.loop-t-test.true (ap under c.loop-t.invariant.0) c.loop-t.invariant.1 c.settle.ensures.does
          c.in_ok-settle.was,
    )

pub returns : goal.returns
returns c =
    let all : c.loop-t.t ≡ STATIONS = omega arith in
    subst (λ (n : ℕ). DoneTo n (sheet_of c.args.pages.now) (state c.loop-t.book c.loop-t.pages)) all c.loop-t.invariant.1
