-- The rules at figures that were worked out by hand.
use Rattle.std.specs.Prelude.{◌≡◌, ℕ, List, [], ◌∷◌, replicate, ℤ, pos, negsuc, Some, None, Option, slice_set}
use Rattle.book.specs.Calls.{first_revised}
use Rattle.book.specs.Causes.{bad_notice}
use Rattle.book.specs.Stations.{slot_of}
use Rattle.share.specs.Shares.{shares}
use Rattle.std.specs.Option.{option_map}
use Rattle.tariff.specs.Bands.{banded_charge}
use Rattle.layers.specs.Penalties.{penal}
use Rattle.tariff.specs.Rates.{single}
use Rattle.tariff.specs.declared.banded.Banded.TheVariants.{From10, From15}
use Rattle.tariff.specs.declared.banded.TheConstants.{BANDED_CEILING}
use Rattle.tariff.specs.declared.query.Query.{Query}
use Rattle.units.specs.Faults.{refusal_of}
use Rattle.units.specs.declared.station.Kind.{Kind}
use Rattle.units.specs.declared.station.Kind.TheVariants.{Wind, Solar}

-- Station 2 in block 7.
abbrev pub asked : ℕ → ℕ → ℕ → Query
asked schedule actual capacity =
    record { station = 2; block = 7; schedule = schedule; actual = actual; capacity = capacity }

abbrev pub from10 : Query → ℤ
from10 = banded_charge From10

abbrev pub from15 : Query → ℤ
from15 = banded_charge From15

-- In block 7 a capacity of 1,000 kW should have been declared.
abbrev pub due_in_block7 : List (Option ℕ)
due_in_block7 = slice_set (replicate 96 None) 7 (Some 1000)

-- Three generators of equal weight.
abbrev pub equal_weights : List ℕ
equal_weights = 1 ∷ 1 ∷ 1 ∷ []

-- The number for which a notice in block n is refused, if it is.
abbrev pub notice_number : Kind → ℕ → Option ℕ
notice_number kind n = option_map (λ f. (refusal_of f).number) (bad_notice n (slot_of kind n))

abbrev pub WorkedFigures : Type 0
WorkedFigures =
    (from10 (asked 1000 1100 1000) ≡ pos 0) ×
    (from10 (asked 1000 899 1000) ≡ pos 13) ×
    (from10 (asked 1000 1200 1000) ≡ pos 1250) ×
    (from10 (asked 1000 1301 1000) ≡ pos 3788) ×
    (from10 (asked 1000 1000 0) ≡ pos 0) ×
    (from10 (asked 1000 1001 0) ≡ pos 38) ×
    (from15 (asked 1000 1301 1000) ≡ pos 2525) ×
    (single 300 200 (asked 1000 990 1000) ≡ pos 750) ×
    (single 300 200 (asked 1000 1010 1000) ≡ negsuc 449) ×
    (penal BANDED_CEILING 2 due_in_block7 from10 (asked 1000 1301 2000) ≡ pos 11364) ×
    (shares (pos 100) equal_weights ≡ pos 33 ∷ pos 33 ∷ pos 34 ∷ []) ×
    (shares (negsuc 99) equal_weights ≡ negsuc 32 ∷ negsuc 32 ∷ negsuc 33 ∷ []) ×
    (notice_number Wind 92 ≡ None) × (first_revised 92 ≡ 95) × (notice_number Wind 93 ≡ Some 13) ×
    (notice_number Solar 22 ≡ None) × (notice_number Solar 75 ≡ None) ×
    (notice_number Solar 21 ≡ Some 13) × (notice_number Solar 76 ≡ Some 13)
