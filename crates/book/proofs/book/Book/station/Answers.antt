use Rattle.book.proofs.Changes.{station_checked}
use Rattle.book.proofs.book.Book.station.Goals as goal

pub returns : goal.returns
returns g c = rw (c.ok_or.ensures.value, c.copied.ensures) (station_checked c.args.self.now c.args.t c.get.result (rw c.deref.ensures.0 at c.get.ensures.lookup))
