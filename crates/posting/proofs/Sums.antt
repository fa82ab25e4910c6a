-- Signed sums of a day.
use Rattle.std.proofs.Common.{◌≡◌, ℕ, zero, suc, ◌+◌, ◌*◌, ◌<◌, ◌≤◌, List, length, get_or, set, replicate, take, ℤ, pos, ◌+ℤ◌, nat_abs, sum, sym, refl, ap, ◌∙◌, inl, inr, add-one, arith, w64, to_z, of_z}
use Rattle.posting.proofs.Accounts.{changed_in}
use Rattle.posting.proofs.Blocks.{block_alive, length_loads, same_amounts}
use Rattle.posting.specs.Amounts.{amounts_at, no_amounts, plus, Within}
use Rattle.posting.specs.Days.{Posted, StationDay, SumsOf, SumsTo, account_after, charge_at, deviation_at, no_account, posted_accounts, shares_to, sum_to, weights_at}
use Rattle.posting.specs.declared.account.Account.{Account}
use Rattle.posting.specs.declared.day.DaySums.{DaySums}
use Rattle.share.specs.declared.amounts.Amounts.{Amounts}
use Rattle.share.proofs.Fairness.{part_all, part_none, share_at, share_small}
use Rattle.share.specs.Keys.{NeverVanish}
use Rattle.share.specs.Shares.{shares, part}
use Rattle.std.proofs.lemmas.List.{get_or_past, get_or-set_other, get_or-set_same, length-map, length-set, take_all}
use Rattle.std.proofs.lemmas.Bool.{cases_eq, cases_lt}
use Rattle.std.proofs.lemmas.Int.{ints}
use Rattle.units.specs.declared.limits.TheConstants.{BLOCKS, BLOCK_PAISE}

pub sum_to_none : (f : ℕ → ℤ) → sum_to f 0 ≡ pos 0
unfolding sum_to
sum_to_none f = refl

sum_to_more : (f : ℕ → ℤ) (n : ℕ) → sum_to f (n + 1) ≡ sum_to f n +ℤ f n
unfolding sum_to
sum_to_more f n = rw add-one

-- a running sum, one block more
sum_more : (f : ℕ → ℤ) (b : ℕ) (old x new : ℤ) → old ≡ sum_to f b → nat_abs old ≤ b * BLOCK_PAISE → x ≡ f b → nat_abs x ≤ BLOCK_PAISE → new ≡ old +ℤ x
    → (new ≡ sum_to f (b + 1)) × (nat_abs new ≤ (b + 1) * BLOCK_PAISE)
sum_more f b old x new p small q least r = (omega (arith, ints, p, q, r, sum_to_more f b), omega (arith, ints))

-- the same, of a sum that the code computes
pub charge_more : (f : ℕ → ℤ) (b : ℕ) (old x : ℤ) → b < BLOCKS → old ≡ sum_to f b → nat_abs old ≤ b * BLOCK_PAISE → x ≡ f b → nat_abs x ≤ BLOCK_PAISE
    → (to_z w64 (of_z w64 (old +ℤ to_z w64 (of_z w64 x))) ≡ sum_to f (b + 1)) × (nat_abs (to_z w64 (of_z w64 (old +ℤ to_z w64 (of_z w64 x)))) ≤ (b + 1) * BLOCK_PAISE)
charge_more f b old x h p small q least = sum_more f b old x _ p small q least (omega (arith, ints))

-- the sums that a generator has of the blocks before, and of one block more
pub shares_none : (f g : ℕ → ℤ) → no_amounts ≡ record { money = sum_to f 0; energy = sum_to g 0 }
shares_none f g = same_amounts (sym (sum_to_none f)) (sym (sum_to_none g))

pub shares_more : (f g : ℕ → ℤ) (b : ℕ) (old x new : Amounts) → old ≡ record { money = sum_to f b; energy = sum_to g b } → Within (b * BLOCK_PAISE) old
    → x ≡ record { money = f b; energy = g b } → Within BLOCK_PAISE x → new ≡ plus old x
    → (new ≡ record { money = sum_to f (b + 1); energy = sum_to g (b + 1) }) × Within ((b + 1) * BLOCK_PAISE) new
shares_more f g b old x new p small q least r =
    let money = sum_more f b old.money x.money new.money (ap (λ a. a.money) p) small.0 (ap (λ a. a.money) q) least.0 (ap (λ a. a.money) r) in
    let energy = sum_more g b old.energy x.energy new.energy (ap (λ a. a.energy) p) small.1 (ap (λ a. a.energy) q) least.1 (ap (λ a. a.energy) r) in
    (same_amounts money.0 energy.0, (money.1, energy.1))

pub within_none : (limit : ℕ) (a : Amounts) → a ≡ no_amounts → Within limit a
within_none limit a e = rw e (omega arith, omega arith)

pub none_yet : (n k : ℕ) (a : Amounts) → a ≡ no_amounts → get_or (replicate n a) k no_amounts ≡ no_amounts
none_yet zero k a e = refl
none_yet (suc n) zero a e = e
none_yet (suc n) (suc k) a e = none_yet n k a e

pub sum_to_same : (f g : ℕ → ℤ) (n : ℕ) → ((k : ℕ) → k < n → f k ≡ g k) → sum_to f n ≡ sum_to g n
unfolding sum_to
sum_to_same f g zero h = refl
sum_to_same f g (suc n) h =
    let rest = sum_to_same f g n (λ k l. h k (omega arith)) in
    let last = h n (omega arith) in
    rw (rest, last)

sum_to_zeros : (n : ℕ) → sum_to (λ k. pos 0) n ≡ pos 0
unfolding sum_to
sum_to_zeros zero = refl
sum_to_zeros (suc n) = let rest = sum_to_zeros n in omega (arith, ints)

sum_to_plus : (f g : ℕ → ℤ) (n : ℕ) → sum_to (λ k. f k +ℤ g k) n ≡ sum_to f n +ℤ sum_to g n
unfolding sum_to
sum_to_plus f g zero = refl
sum_to_plus f g (suc n) = let rest = sum_to_plus f g n in omega (arith, ints)

sum_to_swap : (f : ℕ → ℕ → ℤ) (n b : ℕ) → sum_to (λ k. sum_to (λ c. f c k) b) n ≡ sum_to (λ c. sum_to (λ k. f c k) n) b
unfolding sum_to
sum_to_swap f n zero = sum_to_zeros n
sum_to_swap f n (suc b) = sum_to_plus (λ k. sum_to (λ c. f c k) b) (f b) n ∙ ap (λ z. z +ℤ sum_to (f b) n) (sum_to_swap f n b)

-- the first k shares together
pub first_shares : (m : ℤ) (ws : List ℕ) (k : ℕ) → k ≤ length ws → sum_to (λ j. get_or (shares m ws) j (pos 0)) k ≡ part m (sum (take k ws)) (sum ws)
unfolding sum_to
first_shares m ws zero h = sym (part_none m (sum ws))
first_shares m ws (suc k) h =
    let rest = first_shares m ws k (omega arith) in
    let here = rw add-one at (share_at m ws k (omega arith)) in
    omega (arith, ints)

pub all_shares : (m : ℤ) (ws : List ℕ) (n : ℕ) → length ws ≡ n → 0 < sum ws → sum_to (λ j. get_or (shares m ws) j (pos 0)) n ≡ m
all_shares m ws n e h =
    first_shares m ws n (omega arith) ∙ ap (λ xs. part m (sum xs) (sum ws)) (take_all n ws (omega arith)) ∙ part_all m (sum ws) h

-- what the generators of a station get of the first n blocks adds up to the station's amounts
day_whole : (d : StationDay) → NeverVanish d.rules.weighs → (n : ℕ) (amount got : ℕ → ℤ)
    → ((k : ℕ) → k < d.members.count → got k ≡ sum_to (λ b. get_or (shares (amount b) (weights_at d b)) k (pos 0)) n)
    → sum_to got d.members.count ≡ sum_to amount n
day_whole d alive n amount got each =
    let all = d.members.count in
    sum_to_same got _ all each
    ∙ sum_to_swap (λ b k. get_or (shares (amount b) (weights_at d b)) k (pos 0)) all n
    ∙ sum_to_same _ amount n (λ b h.
    let long : length (weights_at d b) ≡ all = rw (length-map, length_loads) in
    all_shares (amount b) (weights_at d b) all long (block_alive d alive b))

-- sums that have come to the last of these blocks
pub sums_whole : (d : StationDay) → NeverVanish d.rules.weighs → (n last : ℕ) → n ≡ last → (s : DaySums) → s.members ≡ d.members → s.charges ≡ sum_to (charge_at d) n
    → ((k : ℕ) → get_or s.each k no_amounts ≡ shares_to d k n) → SumsTo d last s
sums_whole d alive n last end s members charges are =
    let at : (k : ℕ) → get_or s.each k no_amounts ≡ shares_to d k last = λ k. are k ∙ ap (shares_to d k) end in
    record {
      members = members;
      charges = charges ∙ ap (sum_to (charge_at d)) end;
      each = at;
      money = day_whole d alive last (charge_at d) (λ k. (get_or s.each k no_amounts).money) (λ k l. ap (λ a. a.money) (at k));
      energy = day_whole d alive last (deviation_at d) (λ k. (get_or s.each k no_amounts).energy) (λ k l. ap (λ a. a.energy) (at k));
    }

-- sums to which the first n of some shares are added
pub record Added (share : ℕ → Amounts) (old : List Amounts) (n : ℕ) (sums : List Amounts) : Type 0 where
  pub length_is : length sums ≡ 32
  pub done : (k : ℕ) → k < n → get_or sums k no_amounts ≡ plus (get_or old k no_amounts) (share k)
  pub rest : (k : ℕ) → n ≤ k → get_or sums k no_amounts ≡ get_or old k no_amounts

pub added_more : (share : ℕ → Amounts) (old sums : List Amounts) (n : ℕ) (x : Amounts) → n < 32 → Added share old n sums → x ≡ share n
    → Added share old (n + 1) (set sums n (plus (get_or sums n no_amounts) x))
added_more share old sums n x h a is =
    let y = plus (get_or sums n no_amounts) x in
    let here : n < length sums = rw a.length_is h in
    record {
      length_is = length-set sums n y ∙ a.length_is;
      done = λ k l. elim (cases_eq k n) [
        | inl same ↦ rw same (get_or-set_same sums n y no_amounts here ∙ rw (is, a.rest n (omega arith)))
        | inr other ↦ get_or-set_other sums n k y no_amounts other ∙ a.done k (omega (arith, other))
      ];
      rest = λ k l. get_or-set_other sums n k y no_amounts (λ same. omega (arith, same)) ∙ a.rest k (omega arith);
    }

plus_none : (a : Amounts) → a ≡ plus a no_amounts
plus_none a = same_amounts (omega (arith, ints)) (omega (arith, ints))

pub added_all : (ms es : List ℤ) (old sums : List Amounts) (n : ℕ) → length ms ≤ n → length es ≤ n → Added (amounts_at ms es) old n sums
    → (k : ℕ) → get_or sums k no_amounts ≡ plus (get_or old k no_amounts) (amounts_at ms es k)
added_all ms es old sums n p q a k =
    elim (cases_lt k n) [
      | inl h ↦ a.done k h
      | inr h ↦ rw (get_or_past ms k (pos 0) (omega (arith, h)), get_or_past es k (pos 0) (omega (arith, h))) (a.rest k h ∙ plus_none (get_or old k no_amounts))
    ]

-- a block's shares are no further from zero than its figures
pub split_within : (figures : Amounts) (ws : List ℕ) (k : ℕ) → Within BLOCK_PAISE figures → Within BLOCK_PAISE (amounts_at (shares figures.money ws) (shares figures.energy ws) k)
split_within figures ws k small =
    (omega (arith, small.0, share_small figures.money ws k), omega (arith, small.1, share_small figures.energy ws k))

-- what is posted by a day's sums
pub posted_day : (d : StationDay) (s : DaySums) → SumsOf d s → (old new : List Account) → new ≡ posted_accounts d old → Posted d old new
posted_day d s sums old new is =
    let m = d.members in
    let at : (k : ℕ) → m.first + k < length old → k < m.count → get_or new (m.first + k) no_account ≡ account_after d k (get_or old (m.first + k) no_account)
    = λ k h l. ap (λ xs. get_or xs (m.first + k) no_account) is ∙ changed_in m.first m.count (account_after d) old k no_account l h in
    record {
      accounts = is;
      money = λ h. sum_to_same _ (λ k. (get_or s.each k no_amounts).money) m.count (λ k l. ap (λ a. a.money) (at k (omega arith) l) ∙ sym (ap (λ a. a.money) (sums.each k))) ∙ sums.money;
      energy = λ h. sum_to_same _ (λ k. (get_or s.each k no_amounts).energy) m.count (λ k l. ap (λ a. a.energy) (at k (omega arith) l) ∙ sym (ap (λ a. a.energy) (sums.each k))) ∙ sums.energy;
    }
