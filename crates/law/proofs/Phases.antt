-- The phases that take a call.
use Rattle.std.proofs.Common.{◌≡◌, true, false, Some, None, Option, unwrap_or, is_some}
use Rattle.book.specs.Stations.{is_settled, moves}
use Rattle.units.specs.declared.head.Head.{Head}
use Rattle.std.proofs.lemmas.Bool.{false≢true}
use Rattle.units.specs.declared.station.Phase.{Phase}
use Rattle.units.specs.declared.station.Phase.TheVariants.{Filing, Running, Metering, Settled}

-- What there is to show of the phase that a call leads to: nothing where it is not taken.
abbrev Taken : (Phase → Type 0) → Option Phase → Type 0
Taken P None = Unit
Taken P (Some q) = P q

taken : (P : Phase → Type 0) (o : Option Phase) (p : Phase) → Taken P o → is_some o ≡ true → P (unwrap_or o p)
taken P None p t h = absurd (false≢true h)
taken P (Some q) p t h = t

-- what holds of each phase that takes a call, and of the phase after it, holds of a station that takes it
pub by_phase : (a : Head) (P : Phase → Phase → Type 0)
    → Taken (P Filing) (moves Filing a) × Taken (P Running) (moves Running a) × Taken (P Metering) (moves Metering a) × Taken (P Settled) (moves Settled a)
    → (p : Phase) → is_some (moves p a) ≡ true → P p (unwrap_or (moves p a) p)
by_phase a P each Filing h = taken (P Filing) (moves Filing a) Filing each.0 h
by_phase a P each Running h = taken (P Running) (moves Running a) Running each.1 h
by_phase a P each Metering h = taken (P Metering) (moves Metering a) Metering each.2 h
by_phase a P each Settled h = taken (P Settled) (moves Settled a) Settled each.3 h

-- a station that is not settled stays in its phase; or goes to another
abbrev pub Stays : Phase → Phase → Type 0
Stays p q = (is_settled p ≡ false) × (q ≡ p)

abbrev pub LeadsTo : Phase → Phase → Phase → Type 0
LeadsTo r p q = (is_settled p ≡ false) × (q ≡ r)
