-- The parts of an error that lie in the bands come to what its row charges.
use Rattle.std.proofs.Common.{◌≡◌, ℕ, ◌*◌, ◌≤◌, cond, leb, pos, sym, ap, ◌∙◌, arith}
use Rattle.std.proofs.lemmas.Nat.{mul-le}
use Rattle.std.proofs.lemmas.Bool.{cond_both, leb-true, leb-false}
use Rattle.std.proofs.lemmas.Bool.Decides.{nat_tests}
use Rattle.tariff.specs.Bands.{banded, banded_charge, edges_of, error_of, charge_in_bands}
use Rattle.tariff.specs.Table.{Row, free, low, middle, high, Within, row_charge, Tabled}
use Rattle.tariff.specs.declared.banded.Banded.TheVariants.{From10, From15}
use Rattle.tariff.specs.declared.banded.Banded.{Banded}
use Rattle.tariff.specs.declared.banded.Edges.{Edges}
use Rattle.tariff.specs.declared.query.Query.{Query}

-- The row of an error d.
abbrev row_of : Edges → ℕ → ℕ → Row
row_of e c d = cond (leb d (e.first * c)) free (cond (leb d (e.second * c)) low (cond (leb d (e.third * c)) middle high))

module _ (e : Edges) (c d : ℕ) (rising : e.first * c ≤ e.second * c) (higher : e.second * c ≤ e.third * c) where
  is_row : (row : Row) → Within row e c d → row ≡ row_of e c d
  is_row free h = grind (arith, nat_tests)
  is_row low h = grind (arith, nat_tests)
  is_row middle h = grind (arith, nat_tests)
  is_row high h = grind (arith, nat_tests)

  has_row : Within (row_of e c d) e c d
  has_row =
      let a = leb d (e.first * c) in
      let b = leb d (e.second * c) in
      cond_both a free _ (λ row. Within row e c d) (leb-true d _) (λ p.
      cond_both b low _ (λ row. Within row e c d) (λ q. (leb-false d _ p, leb-true d _ q)) (λ q.
      cond_both _ middle high (λ row. Within row e c d) (λ r. (leb-false d _ q, leb-true d _ r)) (leb-false d _)))

  charges : (row : Row) → Within row e c d → charge_in_bands e c d ≡ row_charge row e c d
  charges free h = omega arith
  charges low h = omega arith
  charges middle h = omega arith
  charges high h = omega arith

rising_tabled : (e : Edges) (q : Query) → e.first ≤ e.second → e.second ≤ e.third → Tabled e q (pos (banded e q))
rising_tabled e q p₁ p₂ =
    let c = q.capacity in
    let d = error_of q in
    let rising : e.first * c ≤ e.second * c = mul-le e.first c e.second c p₁ (omega arith) in
    let higher : e.second * c ≤ e.third * c = mul-le e.second c e.third c p₂ (omega arith) in
    record {
      covered = (row_of e c d, has_row e c d rising higher);
      apart = λ r s h k. is_row e c d rising higher r h ∙ sym (is_row e c d rising higher s k);
      charged = λ row h. ap pos (charges e c d rising higher row h);
    }

pub tabled : (t : Banded) (q : Query) → Tabled (edges_of t) q (banded_charge t q)
tabled From10 q = rising_tabled (edges_of From10) q (omega arith) (omega arith)
tabled From15 q = rising_tabled (edges_of From15) q (omega arith) (omega arith)
