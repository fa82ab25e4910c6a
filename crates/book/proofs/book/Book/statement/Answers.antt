use Rattle.std.proofs.Common.{◌≤◌, length, ap, arith, rules}
use Rattle.book.proofs.Places.{end_within}
use Rattle.book.proofs.book.Book.statement.Goals as goal
use Rattle.book.specs.States.{nobody}
use Rattle.book.specs.declared.station.Station.{Station}

pub slice_bounds-result-end : goal.slice_bounds-result-end
slice_bounds-result-end g c =
    let b = c.args.self.now in
    let at = c.in_ok-station.ensures.1 in
    let end = end_within b.stations.items c.args.t nobody at.station.stays.within b.laid in
    let first = ap (λ (s : Station). s.plant.members.first) at.station.is in
    let count = ap (λ (s : Station). s.plant.members.count) at.station.is in
    let fit = at.fit.accounts in
    let within : c.numbers.result.end ≤ length c.as_slice-accounts.result.now = omega (arith, end, first, count, fit) in
    search rules
