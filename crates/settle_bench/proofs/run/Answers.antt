-- The day's pages have an account for each generator, and what the last book left is reported.
use Rattle.book.specs.States.{state}
use Rattle.posting.specs.Sheets.{Sheet}
use Rattle.settle_bench.proofs.Settling.{all_settled}
use Rattle.settle_bench.proofs.run.Goals as goal
use Rattle.settle_bench.specs.Days.{given_sheet}
use Rattle.settle_bench.specs.Full.{DoneTo}
use Rattle.std.proofs.lemmas.List.{length-map}
use Rattle.std.proofs.Common.{◌≡◌, length, vec_items, sym, ap, ◌∙◌, subst, arith}
use Rattle.units.specs.declared.limits.TheConstants.{ALL_GENERATORS, STATIONS}

pub last_book-requires : goal.last_book-requires
last_book-requires c =
    let accounts = vec_items c.in_ok-pages.pages.accounts in
    let many : length c.args.day.now.installed.now ≡ ALL_GENERATORS = omega arith in
    sym (length-map accounts (λ a. a.installed)) ∙ ap (λ (s : Sheet). length s.installed) c.in_ok-pages.ensures ∙ many

pub returns : goal.returns
returns c settled = all_settled (given_sheet c.args.day.now) (state c.in_ok-book.book c.last_book.new.pages) _ _
    (subst (λ (s : Sheet). DoneTo STATIONS s (state c.in_ok-book.book c.last_book.new.pages)) c.in_ok-pages.ensures (c.in_ok-book.ensures.done settled))
    c.in_ok-report.ensures
