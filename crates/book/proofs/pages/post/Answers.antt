use Rattle.book.proofs.Writes.{back}
use Rattle.book.proofs.pages.post.Goals as goal
use Rattle.share.specs.Rules.{rules_of}
use Rattle.posting.specs.Days.{day_on, posted_accounts}
use Rattle.std.proofs.lemmas.Int.{to_z-of_z}
use Rattle.std.proofs.Common.{◌≡◌, length, refl, ap, ◌∙◌, arith, w64, SFits, rules}

pub returns : goal.returns
returns g c =
    let p = c.args.pages.now in
    let r = c.sums-sums.result.charges in
    let fits : SFits w64 r = search rules in
    let d = day_on (rules_of g.T.Tariff g.K.Key c.args.tariff.now) p c.args.t c.args.members in
    let sums = c.sums-sums.ensures.sums in
    let kept : length c.post.new.accounts ≡ p.accounts.len = omega arith in
    record {
      charges = to_z-of_z w64 r fits ∙ sums.charges;
      light = simp to_z-of_z c.sums-sums.ensures.most;
      written = back p.accounts.len c.post.new.accounts _ kept ((c.post.ensures d sums).accounts ∙ ap (posted_accounts d) c.deref_mut.ensures.value);
      others = refl;
    }
