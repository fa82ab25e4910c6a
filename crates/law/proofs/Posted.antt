-- A station that is posted has the charges and its generators the shares that the data give.
use Rattle.std.proofs.Common.{◌≡◌, ℕ, ◌+◌, ◌<◌, ◌≤◌, true, List, length, get_or, set, pos, sym, ap, ◌∙◌, subst, ◌⊎◌, ⊎_elim, inl, inr, arith}
use Rattle.book.specs.Stations.{is_settled, on_balance, settled_at}
use Rattle.book.specs.declared.station.Station.{Station}
use Rattle.law.proofs.Kept.{Accounted, Charged, Placed, Powered, amounts_in, figures_are, share_is}
use Rattle.law.proofs.Places.{Within, in_all, one_owner}
use Rattle.law.proofs.Same.{Unmoved, same_account, same_amounts, same_standing}
use Rattle.law.proofs.Stations.{each_of}
use Rattle.law.proofs.Together.{not_with}
use Rattle.law.specs.Data.{Data, Layout}
use Rattle.law.specs.Figures.{account_of, count_of, first_of, settled_with, standing}
use Rattle.posting.proofs.Sums.{sum_to_same}
use Rattle.posting.proofs.Accounts.{changed_in, changed_out, length_changed, powers_kept}
use Rattle.posting.specs.Days.{StationDay, account_after, no_account, posted_accounts, standing_charges}
use Rattle.posting.specs.declared.account.Account.{Account}
use Rattle.std.proofs.lemmas.Bool.{cases_eq, cases_lt, cond-true}
use Rattle.std.specs.List.{Contains}
use Rattle.units.specs.declared.limits.TheConstants.{BLOCKS}

module _ (y : Layout) (d e : Data) (day : StationDay) (x : Station) (at : Placed y e day)
    (settled : is_settled (e.phase day.station) ≡ true) (others : (u : ℕ) → (Contains (settled_with y d u) day.station → ⊥) → u < length y.counts → Unmoved y d e u) where
  -- no other station is settled with it
  other : (u : ℕ) → (u ≡ day.station → ⊥) → u < length y.counts → Unmoved y d e u
  other u ne h = others u (not_with y d day.station u ne) h

  pub charged : (ss : List Station) → day.station < length ss → Charged day.rules y d ss → Charged day.rules y e (set ss day.station (on_balance (settled_at (standing_charges day)) x))
  charged ss h old =
      each_of (λ k z. k < length y.counts → z.balance.charges ≡ standing day.rules y e k) ss day.station (on_balance (settled_at (standing_charges day)) x) h
      (λ l. sum_to_same _ _ BLOCKS (λ b q. ap (λ a. a.money) (figures_are y e day at b q)) ∙ sym (cond-true (is_settled (e.phase day.station)) _ (pos 0) settled))
      (λ k ne l. old k l ∙ same_standing day.rules y d e k (other k ne l))

  -- the generators of another station lie before or behind
  outside : (u k : ℕ) → (u ≡ day.station → ⊥) → u < length y.counts → k < count_of y u
      → (first_of y u + k < day.members.first) ⊎ (day.members.first + day.members.count ≤ first_of y u + k)
  outside u k ne h l = ⊎_elim inl (λ (p : day.members.first ≤ first_of y u + k). ⊎_elim (λ (q : first_of y u + k < day.members.first + day.members.count).
      let own : Within y.counts (first_of y u + k) u = record { station = h; low = omega arith; high = omega arith } in
      absurd (ne (one_owner y.counts (first_of y u + k) u day.station own (record { station = at.there; low = omega (arith, p, at.first); high = omega (arith, q, at.first, at.count) }))))
      inr (cases_lt (first_of y u + k) (day.members.first + day.members.count)))
      (cases_lt (first_of y u + k) day.members.first)

  pub accounted : (accounts : List Account) → Powered y accounts → Accounted day.rules y d accounts → Accounted day.rules y e (posted_accounts day accounts)
  accounted accounts powers old u k h l = elim (cases_eq u day.station) [
    | inl same ↦
        subst (λ (v : ℕ). k < count_of y v → amounts_in (get_or (posted_accounts day accounts) (first_of y v + k) no_account) ≡ account_of day.rules y e v k)
        (sym same) own l
    | inr ne ↦
        ap amounts_in (changed_out day.members.first day.members.count (account_after day) accounts (first_of y u + k) no_account (room u h l) (outside u k ne h l))
        ∙ old u k h l ∙ same_account day.rules y d e u (other u ne h) k
  ]
    where
      room : (u : ℕ) → u < length y.counts → k < count_of y u → first_of y u + k < length accounts
      room u h l = omega (arith, powers.room, in_all y.counts (first_of y u + k) u (record { station = h; low = omega arith; high = omega arith }))

      own : k < count_of y day.station → amounts_in (get_or (posted_accounts day accounts) (first_of y day.station + k) no_account) ≡ account_of day.rules y e day.station k
      own l =
          let place : first_of y day.station + k ≡ day.members.first + k = omega (arith, at.first) in
          let few : k < day.members.count = omega (arith, at.count) in
          let low : day.members.first + k < length accounts = omega (arith, at.first, room day.station at.there l) in
          ap (λ j. amounts_in (get_or (posted_accounts day accounts) j no_account)) place
          ∙ ap amounts_in (changed_in day.members.first day.members.count (account_after day) accounts k no_account few low)
          ∙ same_amounts
          (sum_to_same _ _ BLOCKS (λ b q. ap (λ a. a.money) (share_is y e day at k b q)) ∙ sym (cond-true (is_settled (e.phase day.station)) _ (pos 0) settled))
          (sum_to_same _ _ BLOCKS (λ b q. ap (λ a. a.energy) (share_is y e day at k b q)) ∙ sym (cond-true (is_settled (e.phase day.station)) _ (pos 0) settled))

-- the installed powers stay
pub powered : (y : Layout) (day : StationDay) (accounts : List Account) → Powered y accounts → Powered y (posted_accounts day accounts)
powered y day accounts p = record {
  room = omega (arith, p.room, length_changed day.members.first day.members.count (account_after day) accounts);
  at = λ g h. ap (λ xs. get_or xs g 0) (powers_kept day accounts) ∙ p.at g h;
  least = p.least;
  most = p.most;
}
