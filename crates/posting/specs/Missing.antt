-- The first reading that a station's day lacks.
use Rattle.std.specs.Prelude.{◌≡◌, ℕ, zero, suc, ◌+◌, ◌*◌, ◌<◌, ◌≤◌, Bool, true, false, cond, not, ◌&&◌, List, is_some, Some, None, Option, ◌==◌, slice_index_or}
use Rattle.posting.specs.declared.members.Members.{Members}
use Rattle.posting.specs.declared.place.Place.{Place}
use Rattle.std.specs.Option.{option_or}
use Rattle.units.specs.declared.limits.TheConstants.{BLOCKS}

abbrev pub is_place : Option Place → ℕ → ℕ → Bool
is_place None g b = false
is_place (Some p) g b = p.generator == g && p.block == b

-- whether the reading of the generator g in the block b is needed and is not on the page
abbrev pub missing_at : List (Option ℕ) → Option Place → ℕ → ℕ → Bool
missing_at readings except g b = not (is_some (slice_index_or readings (BLOCKS * g + b) None)) && not (is_place except g b)

-- of n generators from g on, the first that lacks a reading in the block b
abbrev pub missing_in : List (Option ℕ) → Option Place → ℕ → ℕ → ℕ → Option Place
missing_in readings except b g zero = None
missing_in readings except b g (suc n) =
    cond (missing_at readings except g b) (Some (record { generator = g; block = b })) (missing_in readings except b (g + 1) n)

-- of n blocks from b on, the first with a reading missing, and in it the first generator
unfoldable pub missing_from : List (Option ℕ) → Option Place → Members → ℕ → ℕ → Option Place
missing_from readings except m b zero = None
missing_from readings except m b (suc n) = option_or (missing_in readings except b m.first m.count) (missing_from readings except m (b + 1) n)

abbrev pub first_missing_of : List (Option ℕ) → Option Place → Members → Option Place
first_missing_of readings except m = missing_from readings except m 0 BLOCKS

-- no reading of the station is missing in the blocks before b
abbrev pub ReadBefore : List (Option ℕ) → Option Place → Members → ℕ → Type 0
ReadBefore readings except m b =
    (c g : ℕ) → c < b → m.first ≤ g → g < m.first + m.count → missing_at readings except g c ≡ false

-- a place where a reading is missing and before which none is, or none at all
abbrev pub FirstMissing : List (Option ℕ) → Option Place → Members → Option Place → Type 0
FirstMissing readings except m None = ReadBefore readings except m BLOCKS
FirstMissing readings except m (Some p) =
    (p.block < BLOCKS) × (m.first ≤ p.generator) × (p.generator < m.first + m.count)
    × (missing_at readings except p.generator p.block ≡ true) × ReadBefore readings except m p.block
    × ((g : ℕ) → m.first ≤ g → g < p.generator → missing_at readings except g p.block ≡ false)
