use Rattle.book.proofs.Changes.{settled_back}
use Rattle.book.proofs.Places.{put_back}
use Rattle.book.proofs.book.Book.post.Goals as goal
use Rattle.std.proofs.lemmas.Int.{to_z-of_z}
use Rattle.std.proofs.Common.{w64, SFits, to_z, of_z, rules}

pub invariant_of-self : goal.invariant_of-self
invariant_of-self g c =
    let fits : SFits w64 c.post-charges.result = search rules in
    put_back c.args.self.now c.deref_mut.result.now c.args.t _ c.deref_mut.ensures.value
    (settled_back c.requires.changes (to_z w64 (of_z w64 c.post-charges.result)) c.settle.new.self (simp to_z-of_z c.post-charges.ensures.light) c.requires.settled c.settle.ensures)
