-- The station of a generator.
use Rattle.std.proofs.Common.{◌≡◌, ℕ, zero, suc, ◌+◌, ◌<◌, ◌≤◌, false, List, [], ◌∷◌, length, get_or, take, Some, None, Option, sym, refl, ap, ◌∙◌, add-one, arith}
use Rattle.book.proofs.Causes.{none_first, none_when}
use Rattle.book.proofs.Places.{end_at, end_within}
use Rattle.book.proofs.Positions.{nowhere}
use Rattle.units.specs.Refusals.{Checks, first}
use Rattle.book.specs.Sound.{generators_of, Laid}
use Rattle.book.specs.States.{Fit, generator_presence, no_generator, nobody, Owner, reaches, short_pages, State}
use Rattle.book.specs.declared.station.Station.{Station}
use Rattle.std.proofs.lemmas.Bool.{cond-true, le-leb, lt-leb, ltb-false, ltb-true}
use Rattle.std.proofs.lemmas.List.{take_all}
use Rattle.std.proofs.lemmas.List.Quantifiers.{position-Some}
use Rattle.std.proofs.lemmas.List.Sums.{position_or_len_is}
use Rattle.std.specs.List.{position}
use Rattle.std.specs.Option.{ok_or}
use Rattle.units.specs.declared.fault.Fault.TheVariants.{NoSuchNumber}

-- a station that the search has passed ends before the generator
ends : (g : ℕ) (x : Station) → reaches g x ≡ false → x.plant.members.first + x.plant.members.count ≤ g
ends g x e = ltb-false _ _ e

-- where no station reaches it, there is no such generator
owner_none : (g : ℕ) (ss : List Station) → Laid ss → position (reaches g) ss ≡ None → generators_of ss ≤ g
owner_none g [] laid e = omega arith
owner_none g (x ∷ ss) laid e =
    let all = x ∷ ss in
    let last = length ss in
    let h : last < length all = omega arith in
    let passed = ends g (get_or all last nobody) (nowhere (reaches g) all e last nobody h) in
    let whole : take (last + 1) all ≡ all = take_all (last + 1) all (omega arith) in
    omega (arith, passed, end_at all last nobody h laid, ap generators_of whole)

-- the station that the search found has the generator
owner_some : (g : ℕ) (s : State) (t : ℕ) → Fit s → Laid s.stations → position (reaches g) s.stations ≡ Some t → Owner g s t
owner_some g s t fit laid e =
    let ss = s.stations in
    let at = position-Some (reaches g) ss t nobody e in
    let high : g < (get_or ss t nobody).plant.members.first + (get_or ss t nobody).plant.members.count = ltb-true _ _ at.1 in
    record {
      fit = fit;
      there = omega (arith, high, end_within ss t nobody at.0 laid);
      within = at.0;
      low = low t at.0 at.2;
      high = high;
      is = sym (position_or_len_is (reaches g) ss t nobody (omega (arith, at.0)) at.2 (λ l. at.1));
    }
  where
    low : (t : ℕ) → t < length s.stations → ((k : ℕ) → k < t → reaches g (get_or s.stations k nobody) ≡ false) → (get_or s.stations t nobody).plant.members.first ≤ g
    low zero h before = omega (arith, laid 0 nobody h)
    low (suc t) h before =
        let passed = ends g (get_or s.stations t nobody) (before t (omega arith)) in
        let first = laid (suc t) nobody h in
        let end : (get_or s.stations t nobody).plant.members.first + (get_or s.stations t nobody).plant.members.count ≡ generators_of (take (suc t) s.stations) =
        rw add-one at (end_at s.stations t nobody (omega arith) laid) in
        omega (arith, passed, first, end)

-- the search, where the pages fit
pub owner_checked : (g : ℕ) (s : State) (o : Option ℕ) → short_pages s ≡ None → Fit s → Laid s.stations → o ≡ position (reaches g) s.stations
    → Checks (generator_presence g s) (Owner g s) (ok_or o (NoSuchNumber g))
owner_checked g s None clear fit laid e =
    ap (λ c. first (c ∷ no_generator g s ∷ [])) clear
    ∙ ap (λ c. first (c ∷ [])) (cond-true _ (Some (NoSuchNumber g)) None (le-leb _ _ (owner_none g s.stations laid (sym e))))
owner_checked g s (Some t) clear fit laid e =
    let own = owner_some g s t fit laid (sym e) in
    (none_first (short_pages s) _ clear (none_first (no_generator g s) [] (none_when _ _ (lt-leb _ _ own.there)) refl), own)
