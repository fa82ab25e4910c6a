-- What is written of a number in a column, of a line, and of the generators one after another.
use Rattle.std.proofs.Common.{◌≡◌, ℕ, suc, ◌+◌, ◌-◌, ◌^◌, ◌<◌, true, List, [], ◌∷◌, ◌++◌, length, get_or, take, replicate, ℤ, pos, negsuc, refl, ◌∙◌, arith, append-nil, append_assoc, le-ltb, to_z-of_z}
use Rattle.quoting.specs.Layout.{generator_line, right, station_line}
use Rattle.quoting.specs.declared.quotation.Quotation.{Quotation}
use Rattle.share.specs.declared.amounts.Amounts.{Amounts}
use Rattle.std.proofs.Padding.{padded_integral_right, repeat_ascii, styled_decimal_is, styled_signed_decimal_is}
use Rattle.std.proofs.lemmas.Grind.{common_steps}
use Rattle.std.proofs.lemmas.List.{flat_map_more, take_more}
use Rattle.std.proofs.lemmas.List.FromFn.{get_or-enumerate_from, length-enumerate_from}
use Rattle.std.specs.Fmt.{char_count, decimal, format_spec, padded_integral, signed_decimal, styled_decimal, styled_signed_decimal}
use Rattle.std.specs.List.{enumerate_from}
use Rattle.std.specs.Prelude.{codes, flat_map}

-- what a placeholder as `{n:>11}` writes of an unsigned number, and of a signed one
abbrev pub unsigned : ℕ → ℕ → List ℕ
unsigned width n = styled_decimal (format_spec 32 3 0 width (2 ^ 64 - 1)) n

abbrev pub signed : ℕ → ℤ → List ℕ
signed width z = styled_signed_decimal (format_spec 32 3 0 width (2 ^ 64 - 1)) z

unsigned_right : (width n : ℕ) → unsigned width n ≡ right width (decimal n)
unfolding right
unsigned_right width n =
    let s = format_spec 32 3 0 width (2 ^ 64 - 1) in
    styled_decimal_is s n ∙ padded_integral_right s (decimal n) refl refl (omega arith) (omega arith) (omega arith)

below_zero : (width : ℕ) (numeral : List ℕ) → padded_integral (format_spec 32 3 0 width (2 ^ 64 - 1)) true [] numeral ≡ right width (45 ∷ numeral)
unfolding padded_integral char_count right
below_zero width numeral =
    let short : width - length numeral - 1 - 0 ≡ width - suc (length numeral) = omega arith in
    let padding = width - suc (length numeral) in
    let none : padding - padding ≡ 0 = omega arith in
    rw (short, none, repeat_ascii padding 32 (omega arith)) (simp append-nil (append_assoc (replicate padding 32) (45 ∷ []) numeral))

signed_right : (width : ℕ) (z : ℤ) → signed width z ≡ right width (signed_decimal z)
unfolding right
signed_right width (pos n) =
    let s = format_spec 32 3 0 width (2 ^ 64 - 1) in
    styled_signed_decimal_is s (pos n) ∙ rw (le-ltb n 0 (omega arith)) (padded_integral_right s (decimal n) refl refl (omega arith) (omega arith) (omega arith))
signed_right width (negsuc n) =
    styled_signed_decimal_is (format_spec 32 3 0 width (2 ^ 64 - 1)) (negsuc n) ∙ below_zero width (decimal (suc n))

pub station_written : (r : Quotation)
    → codes "station   " ++ (unsigned 11 r.query.schedule ++ (32 ∷ (unsigned 10 r.query.actual ++ (32 ∷ (unsigned 11 r.query.capacity ++ (32 ∷ (signed 12 r.owed.energy ++ (32 ∷ (signed 14 r.owed.money ++ codes "\n")))))))))
    ≡ station_line r
unfolding station_line
station_written r =
    rw (unsigned_right 11 r.query.schedule, unsigned_right 10 r.query.actual, unsigned_right 11 r.query.capacity, signed_right 12 r.owed.energy, signed_right 14 r.owed.money)
    (simp append_assoc)

pub generator_written : (number : ℕ) (share : Amounts)
    → codes "generator " ++ (unsigned 6 number ++ (32 ∷ (signed 14 share.money ++ (32 ∷ (signed 11 share.energy ++ codes "\n")))))
    ≡ generator_line (number, share)
unfolding generator_line
generator_written number share = rw (unsigned_right 6 number, signed_right 14 share.money, signed_right 11 share.energy) (simp append_assoc)

pub ruleset lines_written = (to_z-of_z, station_written, generator_written)

-- one line more
pub lines_more : (each : List Amounts) (n : ℕ) (d : Amounts) → n < length each
    → flat_map generator_line (take n (enumerate_from 0 each)) ++ generator_line (n, get_or each n d)
    ≡ flat_map generator_line (take (n + 1) (enumerate_from 0 each))
lines_more each n d short =
    let numbered = enumerate_from 0 each in
    grind (arith, length-enumerate_from 0 each, get_or-enumerate_from 0 each n (0, d) short, take_more numbered n (0, d), flat_map_more generator_line [] (take n numbered) (n, get_or each n d))

pub ruleset lines_walked = (common_steps, length-enumerate_from, lines_more)
