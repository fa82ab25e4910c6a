-- The stations that are laid, and what is left of the kinds and counts.
use Rattle.std.proofs.Common.{◌≡◌, ◌+◌, ◌*◌, ◌≤◌, ◌++◌, map, length, None}
use Rattle.book.proofs.opening.lay_stations.Given as goal
use Rattle.book.specs.Opening.{bad_stations, opened_stations, view_of}
use Rattle.std.specs.Iterator.Adapters.{zip_first, zip_second}
use Rattle.std.specs.Slice.Iter.{iter_rest}
use Rattle.units.specs.declared.limits.TheConstants.{ALL_GENERATORS, GENERATORS, STATIONS}

abbrev pub invariant-loop-kind : goal.invariant-loop-kind
invariant-loop-kind l =
    let kinds = iter_rest (zip_first l.kind-iterator) in
    let counts = iter_rest (zip_second l.kind-iterator) in
    record {
      laid : map view_of l.stations.items ++ opened_stations l.first kinds counts ≡ opened_stations 0 l.kinds l.counts;
      sound : bad_stations kinds counts ≡ None;
      same : length counts ≡ length kinds;
      few : l.first + GENERATORS * length kinds ≤ ALL_GENERATORS;
      room : length l.stations.items + length kinds ≤ STATIONS;
    }
