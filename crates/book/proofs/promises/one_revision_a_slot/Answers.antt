use Rattle.book.proofs.Kept.{one_revision_a_slot_lem}
use Rattle.book.proofs.promises.one_revision_a_slot.Goals as goal

pub returns : goal.returns
returns c = one_revision_a_slot_lem
