use Rattle.answering.proofs.Answered.{line_answered}
use Rattle.answering.proofs.by_line.write_handled.Goals as goal

pub returns : goal.returns
returns g c line b p b' p' handled = line_answered line _ _ b b' p p' c.args.answer.now c.write_answer.result c.requires handled c.write_answer.ensures
