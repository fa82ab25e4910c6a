-- The law of each run.
use Rattle.std.proofs.Common.{◌≡◌, List, sym, ap, ◌∙◌, subst}
use Rattle.book.specs.Calls.{Answer}
use Rattle.book.specs.Opening.{Opened}
use Rattle.book.specs.States.{State, state}
use Rattle.book.specs.declared.book.Book.{Book}
use Rattle.posting.specs.declared.pages.Pages.{Pages}
use Rattle.law.proofs.Begun.{begun_kept}
use Rattle.law.proofs.Held.{law_holds, money_same, station_same}
use Rattle.law.proofs.Kept.{Kept}
use Rattle.law.proofs.Steps.{run_kept}
use Rattle.law.specs.Data.{Layout, at_opening, layout_of}
use Rattle.law.specs.Laws.{Lawful, Led, data_of}
use Rattle.share.specs.Rules.{Rules, rules_of}
use Rattle.share.specs.Keys.{NeverVanish}
use Rattle.share.specs.declared.key.Key as key
use Rattle.tariff.specs.declared.tariff.Tariff as tariff
use Rattle.units.specs.declared.call.Call.{Call}
use Rattle.units.specs.declared.call.Opening.{Opening}

-- the same book and pages under other rules
abbrev under : Rules → State → State
under rules s = record s { rules = rules }

module _ {T K : Type 0} {prices : tariff.Ghosts T} {keys : key.Ghosts K} where
  -- a book under the same tariff and key was opened so too
  pub opened_on : {o : Opening} {before begun : Pages} {start : Book T K prices keys} {t t' : T} {k k' : K} → t' ≡ t → k' ≡ k
      → Opened t k o before begun start → Opened t' k' o before begun start
  opened_on tariffs keys_are opened = record {
    cause = opened.cause;
    tariff_is = opened.tariff_is ∙ sym tariffs;
    key_is = opened.key_is ∙ sym keys_are;
    cash = opened.cash;
    openable = opened.openable;
    stations = opened.stations;
    pages = opened.pages;
  }

  kept : (o : Opening) (cs : List Call) (rs : List Answer) (b : Book T K prices keys) (p : Pages) → Led o cs rs b p → Kept (layout_of o) (data_of o cs rs) (state b p)
  kept o cs rs b p led =
      run_kept (layout_of o) cs rs (at_opening (layout_of o)) (state led.start led.begun) (state b p)
      (begun_kept b.tariff b.key o led.before led.begun led.start led.opened) led.run

  -- the other book was opened with the same lists, under the same tariff
  kept_so : (y : Layout) (tariff : T) (o : Opening) (cs : List Call) (rs : List Answer) (b : Book T K prices keys) (p : Pages) → y ≡ layout_of o → b.tariff ≡ tariff → Led o cs rs b p
      → Kept y (data_of o cs rs) (under (rules_of prices keys tariff) (state b p))
  kept_so y tariff o cs rs b p alike tariffs led =
      subst (λ (x : Layout). Kept x (data_of o cs rs) (under (rules_of prices keys tariff) (state b p))) (sym alike)
      (subst (λ (r : Rules). Kept (layout_of o) (data_of o cs rs) (under r (state b p))) (ap (rules_of prices keys) tariffs) (kept o cs rs b p led))

  pub lawful : NeverVanish keys.weighs → (b : Book T K prices keys) (p : Pages) → Lawful b p
  lawful alive b p = record {
    law = λ o cs rs led. law_holds (layout_of o) (data_of o cs rs) (state b p) (kept o cs rs b p led) alive;
    same = λ o q cs ds rs qs b' p' one two tariffs alike equal.
        money_same (layout_of o) (data_of o cs rs) (data_of q ds qs) (state b p) (state b' p')
        (kept o cs rs b p one) (kept_so (layout_of o) b.tariff q ds qs b' p' alike tariffs two) equal;
    station = λ o q cs ds rs qs b' p' one two tariffs alike t there equal.
        station_same (layout_of o) (data_of o cs rs) (data_of q ds qs) (state b p) (state b' p')
        (kept o cs rs b p one) (kept_so (layout_of o) b.tariff q ds qs b' p' alike tariffs two) t there equal;
  }
