-- The range as a test, and as a fact.
use Rattle.std.specs.Prelude.{◌≡◌, ◌↔◌, ◌&&◌, true, nat_le}
use Rattle.std.proofs.lemmas.Bool.{and_from, and_parts, le-leb, leb-true}
use Rattle.tariff.specs.Ranges.{IsInRange, in_range}
use Rattle.tariff.specs.declared.query.Query.{Query}
use Rattle.units.specs.declared.limits.TheConstants.{STATION_KW}

pub in_range-true : (q : Query) → (in_range q ≡ true) ↔ IsInRange q
in_range-true q = (passes, λ r. and_from _ _ (le-leb _ _ r.schedule) (and_from _ _ (le-leb _ _ r.actual) (le-leb _ _ r.capacity))) where
  passes : in_range q ≡ true → IsInRange q
  passes h =
      let low = and_parts (nat_le q.schedule STATION_KW) (nat_le q.actual STATION_KW && nat_le q.capacity STATION_KW) h in
      let others = and_parts (nat_le q.actual STATION_KW) (nat_le q.capacity STATION_KW) low.1 in
      record { schedule = leb-true _ _ low.0; actual = leb-true _ _ others.0; capacity = leb-true _ _ others.1 }
