use Rattle.answering.proofs.Answered.{start_refused}
use Rattle.answering.proofs.by_line.start.Goals as goal
use Rattle.tokens.proofs.Pieces.{exit_is}

pub returns-in_err-room : goal.returns-in_err-room
returns-in_err-room g c =
    start_refused c.args.tariff c.args.key c.args.line.now c.args.output.now c.args.pages.now c.in_err-room.field-0.0 c.from_residual.result c.in_err-room.ensures (exit_is c.from_residual.ensures.1)

pub returns : goal.returns
returns g c = c.write_begun.ensures c.args.tariff c.args.key c.args.line.now c.args.pages.now c.begin-opened.new.pages c.begin-opened.ensures
