-- The checks of an opening, station by station.
use Rattle.std.proofs.Common.{◌≡◌, ℕ, ◌<◌, ◌≤◌, true, ◌&&◌, leb, List, length, get_or, None, sym, ap, ◌∙◌, arith}
use Rattle.book.proofs.Positions.{nowhere}
use Rattle.book.specs.Opening.{generators_in, Installable, outside, sound_station, unsound}
use Rattle.std.proofs.lemmas.Bool.{and_parts, leb-true, ltb-false, not-false, or_parts}
use Rattle.std.proofs.lemmas.List.{get_or_default}
use Rattle.std.proofs.lemmas.List.Sums.{sum_by-le}
use Rattle.std.proofs.lemmas.Slice.Zip.{get_or-zip, length-zip}
use Rattle.std.specs.List.{position, zip}
use Rattle.units.specs.declared.limits.TheConstants.{ALL_GENERATORS, GENERATORS, STATIONS}

-- a sound station goes by 0 or 1, and has some generators, but not too many
pub sound_parts : (kind count : ℕ) → sound_station kind count ≡ true → (kind ≤ 1) × (0 < count) × (count ≤ GENERATORS)
sound_parts kind count s =
    let p = and_parts (leb kind 1) (leb 1 count && leb count GENERATORS) s in
    let c = and_parts (leb 1 count) (leb count GENERATORS) p.1 in
    let low = leb-true 1 count c.0 in
    (leb-true kind 1 p.0, omega (arith, low), leb-true count GENERATORS c.1)

module _ (kinds counts : List ℕ) (same : length counts ≡ length kinds) where
  -- where no station is unsound, each is sound
  all_sound : position unsound (zip kinds counts) ≡ None → (t : ℕ) → t < length kinds → (get_or kinds t 0 ≤ 1) × (0 < get_or counts t 0) × (get_or counts t 0 ≤ GENERATORS)
  all_sound e t h =
      let long : length (zip kinds counts) ≡ length kinds = omega (arith, length-zip kinds counts) in
      let at = get_or-zip kinds counts t (0, 0) h (omega arith) in
      let passed = nowhere unsound (zip kinds counts) e t (0, 0) (omega arith) in
      sound_parts _ _ (not-false _ (sym (ap unsound at) ∙ passed))

  -- so there are not too many in all
  pub few_generators : position unsound (zip kinds counts) ≡ None → length kinds ≤ STATIONS → generators_in counts ≤ ALL_GENERATORS
  unfolding generators_in
  few_generators e few =
      let each : (k d : ℕ) → k < length counts → get_or counts k d ≤ GENERATORS = λ k d h. omega (arith, (all_sound e k (omega arith)).2, get_or_default counts k d 0 h) in
      omega (arith, sum_by-le (λ x. x) GENERATORS counts each)

-- where no installed power is outside, each is one that a generator may have
pub all_installable : (kws : List ℕ) → position outside kws ≡ None → Installable kws
all_installable kws e k h =
    let inside = or_parts _ _ (nowhere outside kws e k 0 h) in
    (ltb-false _ _ inside.0, ltb-false _ _ inside.1)
