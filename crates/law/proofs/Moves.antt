-- What a change of the data leaves.
use Rattle.std.proofs.Common.{◌≡◌, ℕ, ◌+◌, ◌*◌, ◌<◌, ◌≤◌, true, false, leb, ◌&&◌, List, length, get_or, set, None, Option, is_some, sym, refl, ap, ◌∙◌, subst, inl, inr, arith}
use Rattle.book.specs.Lists.{entry}
use Rattle.book.specs.Stations.{is_settled}
use Rattle.law.proofs.Kept.{Whole}
use Rattle.law.proofs.Places.{Within, one_owner}
use Rattle.law.proofs.Same.{Unmoved, same_days, unmoved}
use Rattle.law.proofs.Changed.{but_other, but_same}
use Rattle.law.specs.Data.{Data, Layout, but, but_in}
use Rattle.law.proofs.Together.{all_settled, all_there}
use Rattle.law.specs.Figures.{count_of, first_of, settled_with, stations_in}
use Rattle.law.specs.Laws.{SameDays}
use Rattle.std.specs.List.{Contains}
use Rattle.std.proofs.lemmas.Bool.{both_ways, cases_eq, cond_both}
use Rattle.std.proofs.lemmas.List.{get_or-set_other, get_or-set_same}
use Rattle.units.specs.declared.station.Phase.{Phase}
use Rattle.units.specs.declared.station.Phase.TheVariants.{Settled}
use Rattle.units.specs.declared.limits.TheConstants.{BLOCKS}

-- what holds of the new value at n and of each other holds of each
pub each_but : {X : Type 0} (P : ℕ → X → Type 0) (n : ℕ) (v : X) (f : ℕ → X) → P n v → ((m : ℕ) → (m ≡ n → ⊥) → P m (f m)) → (m : ℕ) → P m (but n v f m)
each_but P n v f new old m = elim (cases_eq m n) [
  | inl e ↦ subst (λ (k : ℕ). P k (but n v f k)) (sym e) (subst (P n) (sym (but_same n v f)) new)
  | inr ne ↦ subst (P m) (sym (but_other n v f m ne)) (old m ne)
]

-- the same, of a range
pub each_in : {X : Type 0} (P : ℕ → X → Type 0) (from to : ℕ) (v : X) (f : ℕ → X) (b : ℕ) → P b v → P b (f b) → P b (but_in from to v f b)
each_in P from to v f b new old = cond_both (leb from b && leb b to) v (f b) (P b) (λ t. new) (λ t. old)

module _ (y : Layout) (d : Data) where
  -- nothing that the money of a station depends on
  pub still : (u : ℕ) → Unmoved y d d u
  still u = unmoved y d d u (same_days y d _ u refl (λ v w. record { phase = refl; schedule = λ b l. refl; capacities = λ k b m l. refl; readings = λ k b m l. refl }))

  -- a station that is not settled is none of those that a settled one is settled with
  apart : (t u v : ℕ) → is_settled (d.phase t) ≡ false → is_settled (d.phase u) ≡ true → Contains (settled_with y d u) v → v ≡ t → ⊥
  apart t u v off on w e = both_ways (is_settled (d.phase t)) off (subst (λ (k : ℕ). is_settled (d.phase k) ≡ true) e (all_settled y d u v on w))

  -- a schedule of a station that is not settled
  pub schedule_moves : (t : ℕ) (row : ℕ → ℕ) → is_settled (d.phase t) ≡ false → (u : ℕ) → u < stations_in y → Unmoved y d (record d { schedule = but t row d.schedule }) u
  schedule_moves t row off u h = record {
    settled = refl;
    days = λ on. same_days y d _ u refl (λ v w. record {
      phase = refl;
      schedule = λ b l. sym (ap (λ (g : ℕ → ℕ). g b) (but_other t row d.schedule v (apart t u v off on w)));
      capacities = λ k b m l. refl;
      readings = λ k b m l. refl;
    });
  }

  -- a phase that leaves those of the stations that station u is settled with
  phase_elsewhere : (t : ℕ) (p : Phase) (u : ℕ) → ((v : ℕ) → Contains (settled_with y d u) v → v ≡ t → ⊥) → SameDays y d (record d { phase = but t p d.phase }) u
  phase_elsewhere t p u others = same_days y d _ u refl (λ v w. record {
    phase = sym (but_other t p d.phase v (others v w));
    schedule = λ b l. refl;
    capacities = λ k b m l. refl;
    readings = λ k b m l. refl;
  })

  -- a phase of a station that is not settled and does not become so
  pub phase_moves : (t : ℕ) (p : Phase) → is_settled (d.phase t) ≡ false → is_settled p ≡ false → (u : ℕ) → u < stations_in y → Unmoved y d (record d { phase = but t p d.phase }) u
  phase_moves t p off un u h = record {
    settled = each_but (λ k q. is_settled (d.phase k) ≡ is_settled q) t p d.phase (off ∙ sym un) (λ k ne. refl) u;
    days = λ on. phase_elsewhere t p u (λ v w. apart t u v off on w);
  }

  -- a station that settles leaves those that are not settled with it
  pub settled_moves : (t u : ℕ) → (Contains (settled_with y d u) t → ⊥) → u < stations_in y → Unmoved y d (record d { phase = but t Settled d.phase }) u
  settled_moves t u out h = unmoved y d _ u (phase_elsewhere t Settled u (λ v w e. out (subst (Contains (settled_with y d u)) e w)))

  -- the k-th generator of another station is another generator
  another : (g t v k : ℕ) → Within y.counts g t → (v ≡ t → ⊥) → v < stations_in y → k < count_of y v → first_of y v + k ≡ g → ⊥
  another g t v k own ne there m e = ne (one_owner y.counts g v t (subst (λ (j : ℕ). Within y.counts j v) e (record { station = there; low = omega arith; high = omega arith })) own)

  -- a capacity of a generator whose station is not settled
  pub capacity_moves : (g t : ℕ) (row : ℕ → ℕ) → Within y.counts g t → is_settled (d.phase t) ≡ false → (u : ℕ) → u < stations_in y → Unmoved y d (record d { capacity = but g row d.capacity }) u
  capacity_moves g t row own off u h = record {
    settled = refl;
    days = λ on. same_days y d _ u refl (λ v w. record {
      phase = refl;
      schedule = λ b l. refl;
      capacities = λ k b m l. sym (ap (λ (f : ℕ → ℕ). f b) (but_other g row d.capacity (first_of y v + k) (another g t v k own (apart t u v off on w) (all_there y d u v h w) m)));
      readings = λ k b m l. refl;
    });
  }

  -- a reading of a generator of station t leaves the stations that are not settled with it
  pub reading_elsewhere : (g t : ℕ) (row : ℕ → Option ℕ) → Within y.counts g t → (u : ℕ) → (Contains (settled_with y d u) t → ⊥) → u < stations_in y → Unmoved y d (record d { reading = but g row d.reading }) u
  reading_elsewhere g t row own u out h = unmoved y d _ u (same_days y d _ u refl (λ v w. record {
    phase = refl;
    schedule = λ b l. refl;
    capacities = λ k b m l. refl;
    readings = λ k b m l. sym (ap (λ (f : ℕ → Option ℕ). f b) (but_other g row d.reading (first_of y v + k) (another g t v k own (λ e. out (subst (Contains (settled_with y d u)) e w)) (all_there y d u v h w) m)));
  }))

  pub reading_moves : (g t : ℕ) (row : ℕ → Option ℕ) → Within y.counts g t → is_settled (d.phase t) ≡ false → (u : ℕ) → u < stations_in y → Unmoved y d (record d { reading = but g row d.reading }) u
  reading_moves g t row own off u h = record {
    settled = refl;
    days = λ on. (reading_elsewhere g t row own u (λ w. apart t u t off on w refl) h).days on;
  }

  pub whole_phase : (t : ℕ) (p : Phase) → is_settled p ≡ false → Whole y d.phase d.reading → Whole y (but t p d.phase) d.reading
  whole_phase t p un old u g b on = each_but (λ k q. is_settled q ≡ true → Within y.counts g k → b < BLOCKS → is_some (d.reading g b) ≡ true) t p d.phase
      (λ yes. absurd (both_ways (is_settled p) un yes)) (λ k ne yes w l. old k g b yes w l) u on

  pub whole_reading : (g : ℕ) (row : ℕ → Option ℕ) → ((b : ℕ) → is_some (d.reading g b) ≡ true → is_some (row b) ≡ true) → Whole y d.phase d.reading → Whole y d.phase (but g row d.reading)
  whole_reading g row keeps old u k b on w l =
      each_but (λ j r. is_some (d.reading j b) ≡ true → is_some (r b) ≡ true) g row d.reading (keeps b) (λ j ne yes. yes) k (old u k b on w l)

-- a reading replaced on its page
pub replaced : (f : ℕ → ℕ → Option ℕ) (p : List (Option ℕ)) (v : Option ℕ) (many g b : ℕ) → g < many → b < BLOCKS → BLOCKS * many ≤ length p
    → ((u c : ℕ) → u < many → c < BLOCKS → get_or p (entry u c) None ≡ f u c)
    → (u c : ℕ) → u < many → c < BLOCKS → get_or (set p (entry g b) v) (entry u c) None ≡ but g (but b v (f g)) f u c
replaced f p v many g b there last room old u c h l =
    let i = entry g b in
    elim (cases_eq u g) [
      | inl e ↦
          elim (cases_eq c b) [
            | inl q ↦
                let same : entry u c ≡ i = omega arith in
                ap (λ k. get_or (set p i v) k None) same ∙ get_or-set_same p i v None (omega arith)
                ∙ sym (ap (λ k. but g (but b v (f g)) f k c) e ∙ ap (λ (r : ℕ → Option ℕ). r c) (but_same g (but b v (f g)) f) ∙ ap (but b v (f g)) q ∙ but_same b v (f g))
            | inr ne ↦
                let other : entry u c ≡ i → ⊥ = λ z. ne (omega arith) in
                get_or-set_other p i (entry u c) v None other ∙ old u c h l ∙ ap (λ k. f k c) e
                ∙ sym (ap (λ k. but g (but b v (f g)) f k c) e ∙ ap (λ (r : ℕ → Option ℕ). r c) (but_same g (but b v (f g)) f) ∙ but_other b v (f g) c ne)
          ]
      | inr ne ↦
          let other : entry u c ≡ i → ⊥ = λ z. ne (omega arith) in
          get_or-set_other p i (entry u c) v None other ∙ old u c h l
          ∙ sym (ap (λ (r : ℕ → Option ℕ). r c) (but_other g (but b v (f g)) f u ne))
    ]
