-- Money and energy together.
use Rattle.std.specs.Prelude.{ℕ, ◌≤◌, List, ℤ, pos, ◌+ℤ◌, slice_index_or, unsigned_abs}
use Rattle.posting.specs.declared.account.Account.{Account}
use Rattle.share.specs.declared.amounts.Amounts.{Amounts}
use Rattle.units.specs.declared.limits.TheConstants.{BLOCK_PAISE, STATION_KW}

abbrev pub no_amounts : Amounts
no_amounts = record { money = pos 0; energy = pos 0 }

-- the k-th of each list
abbrev pub amounts_at : List ℤ → List ℤ → ℕ → Amounts
amounts_at money energy k = record { money = slice_index_or money k (pos 0); energy = slice_index_or energy k (pos 0) }

abbrev pub plus : Amounts → Amounts → Amounts
plus a b = record { money = a.money +ℤ b.money; energy = a.energy +ℤ b.energy }

-- neither is further from zero than the limit
abbrev pub Within : ℕ → Amounts → Type 0
Within limit a = (unsigned_abs a.money ≤ limit) × (unsigned_abs a.energy ≤ limit)

-- how large a block's charge, in paise, and its deviation, in kW, are at most, either way
abbrev pub BlockSized : Amounts → Type 0
BlockSized figures = (unsigned_abs figures.money ≤ BLOCK_PAISE) × (unsigned_abs figures.energy ≤ STATION_KW)

-- the account of a generator to which no day is posted yet
abbrev pub opened_account : ℕ → Account
opened_account kw = record { installed = kw; money = pos 0; energy = pos 0 }

-- an account with these in the place of what stood there
abbrev pub with_amounts : Amounts → Account → Account
with_amounts sums account = record { installed = account.installed; money = sums.money; energy = sums.energy }
