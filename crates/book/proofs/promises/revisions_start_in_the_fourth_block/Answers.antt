use Rattle.book.proofs.Kept.{from_the_fourth_block}
use Rattle.book.proofs.promises.revisions_start_in_the_fourth_block.Goals as goal

pub returns : goal.returns
returns c = from_the_fourth_block
