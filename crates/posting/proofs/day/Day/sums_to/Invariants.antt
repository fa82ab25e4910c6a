use Rattle.std.proofs.Common.{◌≡◌, ℕ, ◌*◌, ◌≤◌, get_or, nat_abs}
use Rattle.posting.proofs.day.Day.sums_to.Given as goal
use Rattle.posting.specs.Amounts.{no_amounts, Within}
use Rattle.posting.specs.Days.{charge_at, shares_to, sum_to, the_day}
use Rattle.units.specs.declared.limits.TheConstants.{BLOCK_PAISE}

abbrev pub invariant-loop-block : goal.invariant-loop-block
invariant-loop-block g l =
    let d = the_day g.T.Tariff g.K.Key l.self in
    record {
      charges_are : l.charges ≡ sum_to (charge_at d) l.block;
      most : nat_abs l.charges ≤ l.block * BLOCK_PAISE;
      shares_are : (k : ℕ) → get_or l.each k no_amounts ≡ shares_to d k l.block;
      within : (k : ℕ) → Within (l.block * BLOCK_PAISE) (get_or l.each k no_amounts);
    }
