use Rattle.std.proofs.Common.{◌+◌, ◌<◌, length, get_or, sym, ap, inl, inr, arith}
use Rattle.posting.proofs.Accounts.{changed_none, turn_more, turn_past}
use Rattle.posting.proofs.day.post_sums.Goals as goal
use Rattle.posting.specs.Amounts.{no_amounts, with_amounts}
use Rattle.posting.specs.Days.{no_account, with_sums}
use Rattle.std.proofs.lemmas.Bool.{cases_lt}
use Rattle.std.proofs.lemmas.List.{get_or-take, length-take}

pub loop-k-init : goal.loop-k-init
loop-k-init c = sym (changed_none c.args.members.first (with_sums c.args.sums.now) c.args.accounts.now)

pub loop-k-preserved : goal.loop-k-preserved
loop-k-preserved c =
    let k = c.loop-k.k in
    let first = c.args.members.first in
    let old = c.args.accounts.now in
    let cur = c.loop-k.accounts in
    let here : k < c.count.result = omega (arith, length-take c.count.result c.args.sums.now) in
    let own = get_or-take c.count.result c.args.sums.now k no_amounts here in
    let turn = turn_more first c.first.result k (with_sums c.args.sums.now) old cur c.post_one.new.accounts c.first.ensures c.loop-k.invariant in
    elim (cases_lt (c.first.result + k) (length cur)) [
      | inl h ↦ turn _ no_account h (c.post_one.ensures.there h) (ap (λ s. with_amounts s (get_or cur (c.first.result + k) no_account)) own)
      | inr h ↦ turn_past first c.first.result k (with_sums c.args.sums.now) old cur c.post_one.new.accounts c.first.ensures c.loop-k.invariant h (c.post_one.ensures.past h)
    ]
