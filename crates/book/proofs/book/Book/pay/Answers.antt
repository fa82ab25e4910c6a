use Rattle.std.proofs.Common.{arith}
use Rattle.book.proofs.Changes.{own, paid_back}
use Rattle.book.proofs.Places.{put_back}
use Rattle.book.proofs.book.Book.pay.Goals as goal

pub invariant_of-self : goal.invariant_of-self
invariant_of-self g c =
    let b = c.args.self.now in
    let lent = c.deref_mut.result.now in
    let t = c.args.t in
    let same = c.deref_mut.ensures.value in
    let is = own b lent t c.index-deref_mut-t.result c.in_ok-find_station.ensures.1.station.stays.within same in
    put_back b lent t _ same (paid_back is.stays c.args.amount c.pay.new.self (omega arith) c.pay.ensures)
