use Rattle.std.proofs.Common.{◌+◌, ◌∙◌, arith, length-take}
use Rattle.grammar.specs.declared.line.TheConstants.{LONGEST_LINE}
use Rattle.whole_day.proofs.Inputs.{of_ok, with_room}
use Rattle.whole_day.proofs.taking.keep.Goals as goal

pub returns : goal.returns
returns c =
    let line = c.args.line.now.items in
    let added = c.try_extend_from_slice-fits in
    let fits = c.fitting-room.ensures in
    of_ok added.result (added.ensures.variant.1 (omega (arith, fits.most, length-take c.fitting-room.result c.args.bytes.now))) added.ensures.ok
    ∙ with_room (LONGEST_LINE + 1) c.fitting-room.result line c.args.bytes.now (omega (arith, fits.fits)) fits.most
