use Rattle.std.proofs.Common.{◌≡◌, length, sym, ◌∙◌, arith}
use Rattle.std.proofs.lemmas.Bool.Decides.{nat_tests}
use Rattle.std.proofs.lemmas.List.{take_all, take-append-le}
use Rattle.lines.specs.declared.form.TheConstants.{MOST_GATHERED}
use Rattle.lines.proofs.form.reads.keep.Goals as goal

pub returns-else-not-is_full : goal.returns-else-not-is_full
returns-else-not-is_full c =
    let full : length c.args.args.now.items ≡ MOST_GATHERED = grind (arith, nat_tests) in
    sym (take-append-le MOST_GATHERED _ _ (omega (arith, full)) ∙ take_all MOST_GATHERED _ (omega (arith, full)))
