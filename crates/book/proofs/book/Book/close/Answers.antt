use Rattle.book.proofs.Changes.{staged_back}
use Rattle.book.proofs.Places.{put_back}
use Rattle.book.proofs.book.Book.close.Goals as goal
use Rattle.book.specs.Stations.{moved}
use Rattle.units.specs.declared.head.Head.TheVariants.{Close}

pub invariant_of-self : goal.invariant_of-self
invariant_of-self g c =
    let b = c.args.self.now in
    let lent = c.deref_mut.result.now in
    let same = c.deref_mut.ensures.value in
    let at = c.in_ok-station.ensures.1 in
    put_back b lent c.args.t _ same (staged_back b.stations.items lent c.args.t b.cash c.index-deref_mut-t.result c.in_ok-station.station (moved Close) same at.becomes at.is)
