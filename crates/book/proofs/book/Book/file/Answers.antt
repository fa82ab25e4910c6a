use Rattle.book.proofs.Changes.{filed_back, own}
use Rattle.book.proofs.Places.{put_back}
use Rattle.book.proofs.book.Book.file.Goals as goal

pub invariant_of-self : goal.invariant_of-self
invariant_of-self g c =
    let b = c.args.self.now in
    let lent = c.deref_mut.result.now in
    let t = c.args.t in
    let same = c.deref_mut.ensures.value in
    let is = own b lent t c.index-deref_mut-t.result c.in_ok-admit.ensures.1.becomes.within same in
    put_back b lent t _ same (filed_back is.stays c.args.from c.args.to c.file.new.self c.in_ok-kw.ensures.1.1 c.file.ensures)
