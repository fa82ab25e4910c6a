use Rattle.book.proofs.Owners.{owner_checked}
use Rattle.book.proofs.book.Book.find_generator.Goals as goal
use Rattle.book.specs.States.{state}

pub returns : goal.returns
returns g c =
    let b = c.args.self.now in
    let fit = c.in_ok-fit.ensures in
    rw c.ok_or.ensures.value (owner_checked c.args.generator (state b c.args.pages.now) c.owner.result fit.0 fit.1 b.laid c.owner.ensures)
