-- The money of a station depends on the days of the stations that it is settled with.
use Rattle.std.proofs.Common.{◌≡◌, ℕ, zero, suc, ◌+◌, ◌-◌, ◌<◌, ◌≤◌, Bool, true, false, cond, List, ◌∷◌, get_or, ℤ, pos, refl, ap, ◌∙◌, subst, arith}
use Rattle.book.specs.Stations.{is_settled}
use Rattle.law.proofs.Together.{itself}
use Rattle.law.specs.Data.{Data, Layout}
use Rattle.law.specs.Figures.{account_of, count_of, figures_of, first_of, load_in, loads_in, loads_of, settled_with, share_of, standing}
use Rattle.law.specs.Laws.{SameDay, SameDays}
use Rattle.posting.proofs.Sums.{sum_to_same}
use Rattle.share.specs.Rules.{Rules}
use Rattle.share.specs.Keys.{totals, weights}
use Rattle.share.specs.Shares.{shares}
use Rattle.share.specs.declared.amounts.Amounts.{Amounts}
use Rattle.share.specs.declared.load.Load.{Load}
use Rattle.std.proofs.lemmas.List.Elements.{All-contains, Contains-get_or}
use Rattle.std.specs.List.{Contains}
use Rattle.tariff.specs.Charges.{deviation_of}
use Rattle.units.specs.declared.limits.TheConstants.{BLOCKS}

pub same_amounts : {a b c d : ℤ} → a ≡ b → c ≡ d → ◌≡◌ {A = Amounts} (record { money = a; energy = c }) (record { money = b; energy = d })
same_amounts p q = cc

-- the figures, by the schedule and the generators of the block
abbrev pub by : Rules → ℕ → ℕ → ℕ → List Load → Amounts
by rules t b s ls = record {
  money = rules.charge (record { station = t; block = b; schedule = s; actual = (totals ls).actual; capacity = (totals ls).capacity });
  energy = deviation_of (record { station = t; block = b; schedule = s; actual = (totals ls).actual; capacity = (totals ls).capacity });
}

abbrev pub split : Rules → ℕ → Amounts → List Load → Amounts
split rules k a ls = record {
  money = get_or (shares a.money (weights rules.weighs ls)) k (pos 0);
  energy = get_or (shares a.energy (weights rules.weighs ls)) k (pos 0);
}

pub same_by : (rules : Rules) (t b s s' : ℕ) (ls ls' : List Load) → s ≡ s' → ls ≡ ls' → by rules t b s ls ≡ by rules t b s' ls'
same_by rules t b s s' ls ls' p q = ap (λ x. by rules t b x ls) p ∙ ap (by rules t b s') q

pub same_split : (rules : Rules) (k : ℕ) (a a' : Amounts) (ls ls' : List Load) → a ≡ a' → ls ≡ ls' → split rules k a ls ≡ split rules k a' ls'
same_split rules k a a' ls ls' p q = ap (λ x. split rules k x ls) p ∙ ap (split rules k a') q

module _ (y : Layout) (d e : Data) (b : ℕ) where
  loads_same : (g n : ℕ) → ((h : ℕ) → g ≤ h → h < g + n → load_in y d h b ≡ load_in y e h b) → loads_in y d b g n ≡ loads_in y e b g n
  loads_same g zero f = refl
  loads_same g (suc n) f =
      ap (λ x. x ∷ loads_in y d b (g + 1) n) (f g (omega arith) (omega arith))
      ∙ ap (λ xs. load_in y e g b ∷ xs) (loads_same (g + 1) n (λ h p q. f h (omega arith) (omega arith)))

module _ (y : Layout) (d e : Data) (t : ℕ) (same : SameDay y d e t) where
  same_loads : (b : ℕ) → b < BLOCKS → loads_of y d t b ≡ loads_of y e t b
  same_loads b h = loads_same y d e b (first_of y t) (count_of y t) (λ g p q.
      let k = g - first_of y t in
      let few : k < count_of y t = omega (arith, p, q) in
      let place : first_of y t + k ≡ g = omega (arith, p) in
      subst (λ (j : ℕ). load_in y d j b ≡ load_in y e j b) place
      (same_load (first_of y t + k) b (same.readings k b few h) (same.capacities k b few h)))
    where
      same_load : (g b : ℕ) → d.reading g b ≡ e.reading g b → d.capacity g b ≡ e.capacity g b → load_in y d g b ≡ load_in y e g b
      same_load g b p q = rw (p, q)

  same_figures : (rules : Rules) (b : ℕ) → b < BLOCKS → figures_of rules y d t b ≡ figures_of rules y e t b
  same_figures rules b h = same_by rules t b _ _ _ _ (same.schedule b h) (same_loads b h)

  same_share : (rules : Rules) (k b : ℕ) → b < BLOCKS → share_of rules y d t k b ≡ share_of rules y e t k b
  same_share rules k b h = same_split rules k _ _ _ _ (same_figures rules b h) (same_loads b h)

-- the days of the stations that it is settled with, one by one
pub same_days : (y : Layout) (d e : Data) (t : ℕ) → settled_with y d t ≡ settled_with y e t → ((u : ℕ) → Contains (settled_with y d t) u → SameDay y d e u) → SameDays y d e t
same_days y d e t same each = record {
  stations = same;
  days = λ k z h. each (get_or (settled_with y d t) k z) (Contains-get_or (settled_with y d t) k z h);
}

-- Settled before and after, and the stations that it is settled with have the same days; or not settled before and after.
pub record Unmoved (y : Layout) (d e : Data) (t : ℕ) : Type 0 where
  pub settled : is_settled (d.phase t) ≡ is_settled (e.phase t)
  pub days : is_settled (d.phase t) ≡ true → SameDays y d e t

its_day : (y : Layout) (d e : Data) (t : ℕ) → SameDays y d e t → SameDay y d e t
its_day y d e t same = All-contains (SameDay y d e) (settled_with y d t) t same.days (itself y d t)

pub unmoved : (y : Layout) (d e : Data) (t : ℕ) → SameDays y d e t → Unmoved y d e t
unmoved y d e t same = record { settled = ap is_settled (its_day y d e t same).phase; days = λ on. same }

same_if : (p q : Bool) (a b : ℤ) → p ≡ q → (p ≡ true → a ≡ b) → cond p a (pos 0) ≡ cond q b (pos 0)
same_if true q a b e f = f refl ∙ ap (λ x. cond x b (pos 0)) e
same_if false q a b e f = ap (λ x. cond x b (pos 0)) e

module _ (rules : Rules) (y : Layout) (d e : Data) (t : ℕ) (u : Unmoved y d e t) where
  on_its_day : is_settled (d.phase t) ≡ true → SameDay y d e t
  on_its_day on = its_day y d e t (u.days on)

  pub same_standing : standing rules y d t ≡ standing rules y e t
  same_standing = same_if _ _ _ _ u.settled (λ on. sum_to_same _ _ BLOCKS (λ b h. ap (λ a. a.money) (same_figures y d e t (on_its_day on) rules b h)))

  pub same_account : (k : ℕ) → account_of rules y d t k ≡ account_of rules y e t k
  same_account k = same_amounts
      (same_if _ _ _ _ u.settled (λ on. sum_to_same _ _ BLOCKS (λ b h. ap (λ a. a.money) (same_share y d e t (on_its_day on) rules k b h))))
      (same_if _ _ _ _ u.settled (λ on. sum_to_same _ _ BLOCKS (λ b h. ap (λ a. a.energy) (same_share y d e t (on_its_day on) rules k b h))))
