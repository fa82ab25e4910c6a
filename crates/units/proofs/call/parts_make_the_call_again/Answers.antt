use Rattle.units.proofs.Again.{made_again}
use Rattle.units.proofs.call.parts_make_the_call_again.Goals as goal

pub returns : goal.returns
returns c = made_again c.parts.result c.args.call c.from_parts.result c.parts.ensures c.from_parts.ensures
