use Rattle.spell.proofs.Lawful.{one_line_each, fits_written}
use Rattle.spell.proofs.laws.fitting_call_has_one_line.Goals as goal

pub returns : goal.returns
returns c = record { one = one_line_each; fits = fits_written }
