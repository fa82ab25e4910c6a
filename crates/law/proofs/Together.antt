-- What the proofs need to know of the stations that a station is settled with.
use Rattle.std.proofs.Common.{◌≡◌, ℕ, zero, suc, ◌<◌, true, sym, refl, ap, ◌∙◌, subst, arith}
use Rattle.book.specs.Stations.{is_settled}
use Rattle.law.specs.Data.{Data, Layout}
use Rattle.law.specs.Figures.{settled_with, stations_in}
use Rattle.std.specs.List.{Contains}

module _ (y : Layout) (d : Data) where
  it_alone : (t u : ℕ) → Contains (settled_with y d t) u → u ≡ t
  it_alone t u (zero, h, e) = sym e
  it_alone t u (suc k, h, e) = absurd (omega arith)

  -- the station is one of them
  pub itself : (t : ℕ) → Contains (settled_with y d t) t
  itself t = (0, omega arith, refl)

  -- all of them are stations of the day
  pub all_there : (t u : ℕ) → t < stations_in y → Contains (settled_with y d t) u → u < stations_in y
  all_there t u h w = subst (λ (k : ℕ). k < stations_in y) (sym (it_alone t u w)) h

  -- none of them is left unsettled
  pub all_settled : (t u : ℕ) → is_settled (d.phase t) ≡ true → Contains (settled_with y d t) u → is_settled (d.phase u) ≡ true
  all_settled t u on w = ap (λ k. is_settled (d.phase k)) (it_alone t u w) ∙ on

  -- another station is not settled with it
  pub not_with : (t u : ℕ) → (u ≡ t → ⊥) → Contains (settled_with y d u) t → ⊥
  not_with t u ne w = ne (sym (it_alone u t w))
