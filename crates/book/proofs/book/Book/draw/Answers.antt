use Rattle.std.proofs.Common.{sym, ap, ◌∙◌, arith}
use Rattle.book.proofs.Changes.{drawn_back, own}
use Rattle.book.proofs.Places.{put_back}
use Rattle.book.proofs.book.Book.draw.Goals as goal
use Rattle.book.specs.Stations.{available}
use Rattle.book.specs.declared.station.Station.{Station}

pub invariant_of-self : goal.invariant_of-self
invariant_of-self g c =
    let b = c.args.self.now in
    let lent = c.deref_mut.result.now in
    let t = c.args.t in
    let same = c.deref_mut.ensures.value in
    let at = c.in_ok-station.ensures.1.station in
    let is = own b lent t c.index-deref_mut-t.result at.stays.within same in
    let may = ap (λ (x : Station). available x.balance) (at.is ∙ sym is.is) in
    let some = c.in_ok-sound_amount.ensures.1.0 in
    put_back b lent t _ same (drawn_back is.stays c.args.amount c.draw.new.self (omega (arith, c.available-available.ensures, may)) (omega arith) some c.draw.ensures)
