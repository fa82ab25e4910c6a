use Rattle.tariff.proofs.Table.{tabled}
use Rattle.tariff.proofs.banded.bands_follow_the_table.Goals as goal

pub returns : goal.returns
returns c = tabled c.args.tariff c.args.query
