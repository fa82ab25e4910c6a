-- The search for the first missing reading.
use Rattle.std.proofs.Common.{◌≡◌, ℕ, zero, suc, ◌+◌, ◌-◌, ◌<◌, ◌≤◌, Bool, true, false, cond, List, map, Some, None, Option, sym, refl, ap, ◌∙◌, subst, inl, inr, arith}
use Rattle.posting.specs.Missing.{first_missing_of, FirstMissing, missing_at, missing_from, missing_in}
use Rattle.posting.specs.declared.members.Members.{Members}
use Rattle.posting.specs.declared.place.Place.{Place}
use Rattle.std.proofs.lemmas.Bool.{cases_eq, cond-false, cond-true}
use Rattle.std.specs.Option.{option_map, option_or}
use Rattle.std.specs.List.{find, range_with_len}
use Rattle.units.specs.declared.limits.TheConstants.{BLOCKS}

same_option : (r : Option Place) → r ≡ option_map (λ p. p) r
same_option None = refl
same_option (Some p) = refl

module _ (rs : List (Option ℕ)) (ex : Option Place) where
  -- one block of those that are left
  pub from_more : (m : Members) (b : ℕ) → b < BLOCKS
      → missing_from rs ex m b (BLOCKS - b) ≡ option_or (missing_in rs ex b m.first m.count) (missing_from rs ex m (b + 1) (BLOCKS - (b + 1)))
  unfolding missing_from
  from_more m b h = let left : BLOCKS - b ≡ suc (BLOCKS - (b + 1)) = omega arith in ap (missing_from rs ex m b) left

  pub from_none : (m : Members) (b : ℕ) → BLOCKS ≤ b → missing_from rs ex m b (BLOCKS - b) ≡ None
  unfolding missing_from
  from_none m b h = let left : BLOCKS - b ≡ 0 = omega arith in ap (missing_from rs ex m b) left

  -- one generator of those that are left
  in_more : (b g end : ℕ) → g < end → missing_in rs ex b g (end - g) ≡ cond (missing_at rs ex g b) (Some (record { generator = g; block = b })) (missing_in rs ex b (g + 1) (end - (g + 1)))
  in_more b g end h = let left : end - g ≡ suc (end - (g + 1)) = omega arith in ap (missing_in rs ex b g) left

  in_range : (b g n : ℕ) → find (λ p. missing_at rs ex p.generator p.block) (map (λ h. record { generator = h; block = b }) (range_with_len g n)) ≡ missing_in rs ex b g n
  in_range b g zero = refl
  in_range b g (suc n) = ap (cond (missing_at rs ex g b) (Some (record { generator = g; block = b }))) (in_range b (g + 1) n)

  pub in_no : (b g end : ℕ) → g < end → missing_at rs ex g b ≡ false → missing_in rs ex b g (end - g) ≡ missing_in rs ex b (g + 1) (end - (g + 1))
  in_no b g end h is = in_more b g end h ∙ cond-false _ _ _ is

  pub in_yes : (b g end : ℕ) → g < end → missing_at rs ex g b ≡ true → missing_in rs ex b g (end - g) ≡ Some (record { generator = g; block = b })
  in_yes b g end h is = in_more b g end h ∙ cond-true _ _ _ is

  -- a search over the numbers from g on
  pub in_found : (b g n : ℕ) (r : Option Place) → option_map (λ p. p) r ≡ find (λ p. missing_at rs ex p.generator p.block) (map (λ h. record { generator = h; block = b }) (range_with_len g n)) → r ≡ missing_in rs ex b g n
  in_found b g n r e = same_option r ∙ e ∙ in_range b g n

  -- of n generators from g on, one that lacks a reading in the block b and before which none does, or none at all
  abbrev InBlock : ℕ → ℕ → ℕ → Option Place → Type 0
  InBlock b g n None = (h : ℕ) → g ≤ h → h < g + n → missing_at rs ex h b ≡ false
  InBlock b g n (Some p) =
      (p.block ≡ b) × (g ≤ p.generator) × (p.generator < g + n) × (missing_at rs ex p.generator b ≡ true) × ((h : ℕ) → g ≤ h → h < p.generator → missing_at rs ex h b ≡ false)

  -- what holds from g + 1 on and at g holds from g on
  from_next : (P : ℕ → Type 0) (g top : ℕ) → P g → ((h : ℕ) → g + 1 ≤ h → h < top → P h) → (h : ℕ) → g ≤ h → h < top → P h
  from_next P g top here rest h p q = elim (cases_eq h g) [ inl e ↦ subst P (sym e) here | inr ne ↦ rest h (omega (arith, ne)) q ]

  in_step : (b g n : ℕ) (t : Bool) (o : Option Place) → missing_at rs ex g b ≡ t → InBlock b (g + 1) n o → InBlock b g (suc n) (cond t (Some (record { generator = g; block = b })) o)
  in_step b g n true o e rest = (refl, omega arith, omega arith, e, λ h p q. let none : ⊥ = omega arith in elim none [ ])
  in_step b g n false None e rest = from_next (λ h. missing_at rs ex h b ≡ false) g (g + suc n) e (λ h p q. rest h p (omega arith))
  in_step b g n false (Some p) e rest = (rest.0, omega (arith, rest.1), omega (arith, rest.2), rest.3, from_next (λ h. missing_at rs ex h b ≡ false) g p.generator e rest.4)

  in_is : (b g n : ℕ) → InBlock b g n (missing_in rs ex b g n)
  in_is b g zero = λ h p q. let none : ⊥ = omega arith in elim none [ ]
  in_is b g (suc n) = in_step b g n (missing_at rs ex g b) (missing_in rs ex b (g + 1) n) refl (in_is b (g + 1) n)

  module _ (m : Members) where
    -- no reading of the station is missing in a block
    abbrev Whole : ℕ → Type 0
    Whole b = (g : ℕ) → m.first ≤ g → g < m.first + m.count → missing_at rs ex g b ≡ false

    -- the same, of n blocks from b on
    abbrev InBlocks : ℕ → ℕ → Option Place → Type 0
    InBlocks b n None = (c : ℕ) → b ≤ c → c < b + n → Whole c
    InBlocks b n (Some p) =
        (b ≤ p.block) × (p.block < b + n) × (m.first ≤ p.generator) × (p.generator < m.first + m.count) × (missing_at rs ex p.generator p.block ≡ true)
        × ((c : ℕ) → b ≤ c → c < p.block → Whole c) × ((g : ℕ) → m.first ≤ g → g < p.generator → missing_at rs ex g p.block ≡ false)

    blocks_step : (b n : ℕ) (i o : Option Place) → InBlock b m.first m.count i → InBlocks (b + 1) n o → InBlocks b (suc n) (option_or i o)
    blocks_step b n None None whole rest = from_next Whole b (b + suc n) whole (λ c p q. rest c p (omega arith))
    blocks_step b n None (Some p) whole rest =
        (omega (arith, rest.0), omega (arith, rest.1), rest.2, rest.3, rest.4, from_next Whole b p.block whole rest.5, rest.6)
    blocks_step b n (Some p) o found rest =
        let at = found.0 in (
          omega arith,
          omega arith,
          found.1,
          found.2,
          rw at found.3,
          λ c p q. let none : ⊥ = omega arith in elim none [ ],
          rw at found.4,
        )

    blocks_is : (b n : ℕ) → InBlocks b n (missing_from rs ex m b n)
    unfolding missing_from
    blocks_is b zero = λ c p q. let none : ⊥ = omega arith in elim none [ ]
    blocks_is b (suc n) = blocks_step b n (missing_in rs ex b m.first m.count) (missing_from rs ex m (b + 1) n) (in_is b m.first m.count) (blocks_is (b + 1) n)

    of_day : (o : Option Place) → InBlocks 0 BLOCKS o → FirstMissing rs ex m o
    of_day None whole = λ c g p. whole c (omega arith) (omega arith) g
    of_day (Some p) found = (omega (arith, found.1), found.2, found.3, found.4, λ c g q. found.5 c (omega arith) q g, found.6)

    pub first_is : (r : Option Place) → r ≡ first_missing_of rs ex m → FirstMissing rs ex m r
    first_is r e = rw e (of_day (first_missing_of rs ex m) (blocks_is 0 BLOCKS))
