-- The accounts of a station's generators, changed one by one.
use Rattle.std.proofs.Common.{◌≡◌, ℕ, zero, suc, ◌+◌, ◌-◌, ◌<◌, ◌≤◌, Bool, true, false, cond, ◌≢◌, ◌⊎◌, List, [], ◌∷◌, length, get_or, set, ℤ, sym, refl, ap, ◌∙◌, subst, inl, inr, arith}
use Rattle.posting.specs.Amounts.{with_amounts}
use Rattle.posting.specs.Days.{StationDay, SumsOf, account_after, Afresh, among, changed, changed_from, no_account, posted_accounts, with_sums}
use Rattle.posting.specs.Sheets.{installed_of}
use Rattle.posting.specs.declared.account.Account.{Account}
use Rattle.posting.specs.declared.day.DaySums.{DaySums}
use Rattle.posting.specs.declared.members.Members.{Members}
use Rattle.std.proofs.lemmas.List.{get_or_default, get_or-map, get_or-set_other, get_or-set_same, length-map, length-set, same_lists}
use Rattle.std.proofs.lemmas.Bool.{cases_eq}
use Rattle.std.proofs.lemmas.Bool.Decides.{nat_tests}

among_in : (first count n : ℕ) → first ≤ n → n < first + count → among first count n ≡ true
among_in first count n p q = grind (arith, nat_tests)

among_out : (first count n : ℕ) → (n < first) ⊎ (first + count ≤ n) → among first count n ≡ false
among_out first count n (inl p) = grind (arith, nat_tests)
among_out first count n (inr p) = grind (arith, nat_tests)

among_none : (first n : ℕ) → among first 0 n ≡ false
among_none first n = grind (arith, nat_tests)

among_other : (first k n : ℕ) → (n ≡ first + k → ⊥) → among first (k + 1) n ≡ among first k n
among_other first k n h = grind (arith, nat_tests)

module _ (first count : ℕ) (f : ℕ → Account → Account) where
  length_from : (n : ℕ) (xs : List Account) → length (changed_from first count f n xs) ≡ length xs
  length_from n [] = refl
  length_from n (x ∷ xs) = ap suc (length_from (n + 1) xs)

  pub length_changed : (xs : List Account) → length (changed first count f xs) ≡ length xs
  length_changed xs = length_from 0 xs

  at_from : (n : ℕ) (xs : List Account) (i : ℕ) (d : Account) → i < length xs
      → get_or (changed_from first count f n xs) i d ≡ cond (among first count (n + i)) (f (n + i - first) (get_or xs i d)) (get_or xs i d)
  at_from n [] i d h = let none : ⊥ = omega arith in elim none [ ]
  at_from n (x ∷ xs) zero d h = ap (λ k. cond (among first count k) (f (k - first) x) x) (omega arith)
  at_from n (x ∷ xs) (suc i) d h =
      at_from (n + 1) xs i d (omega arith) ∙ ap (λ k. cond (among first count k) (f (k - first) (get_or xs i d)) (get_or xs i d)) (omega arith)

  pub changed_at : (xs : List Account) (i : ℕ) (d : Account) → i < length xs
      → get_or (changed first count f xs) i d ≡ cond (among first count i) (f (i - first) (get_or xs i d)) (get_or xs i d)
  changed_at xs i d h = at_from 0 xs i d h ∙ ap (λ k. cond (among first count k) (f (k - first) (get_or xs i d)) (get_or xs i d)) (omega arith)

  pub changed_in : (xs : List Account) (k : ℕ) (d : Account) → k < count → first + k < length xs → get_or (changed first count f xs) (first + k) d ≡ f k (get_or xs (first + k) d)
  changed_in xs k d h l =
      changed_at xs (first + k) d l ∙ rw (among_in first count (first + k) (omega arith) (omega arith)) (ap (λ j. f j (get_or xs (first + k) d)) (omega arith))

  -- an account that is none of them is as it was
  pub changed_out : (xs : List Account) (i : ℕ) (d : Account) → i < length xs → (i < first) ⊎ (first + count ≤ i)
      → get_or (changed first count f xs) i d ≡ get_or xs i d
  changed_out xs i d h out = changed_at xs i d h ∙ rw (among_out first count i out)

module _ (first : ℕ) (f : ℕ → Account → Account) (xs : List Account) where
  pub changed_none : changed first 0 f xs ≡ xs
  changed_none = same_lists _ _ (length_changed first 0 f xs) (λ i d h.
      changed_at first 0 f xs i d (rw (length_changed first 0 f xs) at h) ∙ rw among_none)

  -- the next account is still as it was
  pub next_at : (k : ℕ) (d : Account) → first + k < length xs → get_or (changed first k f xs) (first + k) d ≡ get_or xs (first + k) d
  next_at k d h = changed_out first k f xs (first + k) d h (inr (omega arith))

  changed_more : (k : ℕ) (a d : Account) → first + k < length xs → a ≡ f k (get_or xs (first + k) d) → set (changed first k f xs) (first + k) a ≡ changed first (k + 1) f xs
  changed_more k a d h is = same_lists _ _ (simp (length-set, length_changed)) (λ i e l.
      let within : i < length xs = rw (length-set, length_changed) at l in
      elim (cases_eq i (first + k)) [
        | inl same ↦ subst (λ n. get_or (set (changed first k f xs) (first + k) a) n e ≡ get_or (changed first (k + 1) f xs) n e) (sym same)
            (let here : first + k < length (changed first k f xs) = rw length_changed h in
            get_or-set_same _ _ a e here ∙ is ∙ ap (f k) (get_or_default xs (first + k) d e h) ∙ sym (changed_in first (k + 1) f xs k e (omega arith) h))
        | inr other ↦
            let ne : i ≢ first + k = other in
            rw get_or-set_other (changed_at first k f xs i e within ∙ rw (sym (among_other first k i other)) (sym (changed_at first (k + 1) f xs i e within)))
      ])

  changed_past : (k : ℕ) → length xs ≤ first + k → changed first k f xs ≡ changed first (k + 1) f xs
  changed_past k h = same_lists _ _ (simp length_changed) (λ i e l.
      let within : i < length xs = rw length_changed at l in
      let other : i ≡ first + k → ⊥ = λ p. omega arith in
      changed_at first k f xs i e within ∙ rw (sym (among_other first k i other)) (sym (changed_at first (k + 1) f xs i e within)))

-- a turn of the walk that changes them, where the page has the account and where it ends before
module _ (first first' k : ℕ) (f : ℕ → Account → Account) (old cur after : List Account) (same : first' ≡ first) (inv : cur ≡ changed first k f old) where
  pub turn_more : (a d : Account) → first' + k < length cur → after ≡ set cur (first' + k) a → a ≡ f k (get_or cur (first' + k) d) → after ≡ changed first (k + 1) f old
  turn_more a d here is new =
      let within : first + k < length old = rw (inv, length_changed, same) at here in
      let next : a ≡ f k (get_or old (first + k) d) = new ∙ ap (f k) (rw (inv, same) (next_at first f old k d within)) in
      is ∙ rw (inv, same) (changed_more first f old k a d within next)

  pub turn_past : length cur ≤ first' + k → after ≡ cur → after ≡ changed first (k + 1) f old
  turn_past past is =
      let beyond : length old ≤ first + k = rw (inv, length_changed, same) at past in
      is ∙ inv ∙ changed_past first f old k beyond

pub changed_same : (first count : ℕ) (f g : ℕ → Account → Account) → ((k : ℕ) (a : Account) → f k a ≡ g k a) → (xs : List Account) → changed first count f xs ≡ changed first count g xs
changed_same first count f g same xs = λ i. changed first count (λ k a. same k a i) xs

-- a day's sums post the day
pub posted_by : (d : StationDay) (s : DaySums) → SumsOf d s → (xs : List Account) → changed s.members.first s.members.count (with_sums s.each) xs ≡ posted_accounts d xs
posted_by d s sums xs =
    ap (λ (m : Members). changed m.first m.count (with_sums s.each) xs) sums.members
    ∙ changed_same d.members.first d.members.count (with_sums s.each) (account_after d) (λ k a. ap (λ x. with_amounts x a) (sums.each k)) xs

-- posting changes no installed power
module _ (day : StationDay) where
  power_kept : (b : Bool) (k : ℕ) (a : Account) → (cond b (account_after day k a) a).installed ≡ a.installed
  power_kept true k a = refl
  power_kept false k a = refl

  powers_from : (n : ℕ) (xs : List Account) → installed_of (changed_from day.members.first day.members.count (account_after day) n xs) ≡ installed_of xs
  powers_from n [] = refl
  powers_from n (x ∷ xs) =
      let here = power_kept (among day.members.first day.members.count n) (n - day.members.first) x in
      let rest = powers_from (n + 1) xs in
      cc

  pub powers_kept : (xs : List Account) → installed_of (posted_accounts day xs) ≡ installed_of xs
  powers_kept xs = powers_from 0 xs

with_installed : {i j : ℕ} {a b : ℤ} → i ≡ j → ◌≡◌ {A = Account} (record { installed = i; money = a; energy = b }) (record { installed = j; money = a; energy = b })
with_installed p = cc

pub afresh : Afresh
afresh d old other same k h l =
    let m = d.members in
    let f = account_after d in
    let here : m.first + k < length other = omega (arith, length-map old (λ a. a.installed), length-map other (λ a. a.installed), ap length same) in
    let power : (get_or old (m.first + k) no_account).installed ≡ (get_or other (m.first + k) no_account).installed =
    sym (get_or-map (λ a. a.installed) old (m.first + k) no_account 0 l) ∙ ap (λ xs. get_or xs (m.first + k) 0) same ∙ get_or-map (λ a. a.installed) other (m.first + k) no_account 0 here in
    changed_in m.first m.count f old k no_account h l ∙ with_installed power ∙ sym (changed_in m.first m.count f other k no_account h here)
