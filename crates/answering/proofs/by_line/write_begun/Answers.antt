use Rattle.std.proofs.Common.{◌≡◌, ap, ◌∙◌, sym}
use Rattle.answering.proofs.Answered.{start_answered, start_starts}
use Rattle.answering.proofs.by_line.write_begun.Goals as goal
use Rattle.answering.proofs.by_line.write_begun.Goals.{in-Ok, in-Err}
use Rattle.answering.specs.Lines.{kept, told}

pub returns : goal.returns
returns g c t k line p p' begins =
    let answer : c.match-opened.answer.0 ≡ told c.args.opened = elim c.match-opened.branch [ in-Ok w ↦ ap (λ x. x.0) w.answer-is ∙ sym (ap told w.in-Ok.is) | in-Err w ↦ ap (λ x. x.0) w.answer-is ∙ sym (ap told w.in-Err.is) ] in
    let book : c.match-opened.answer.1 ≡ kept c.args.opened = elim c.match-opened.branch [ in-Ok w ↦ ap (λ x. x.1) w.answer-is ∙ sym (ap kept w.in-Ok.is) | in-Err w ↦ ap (λ x. x.1) w.answer-is ∙ sym (ap kept w.in-Err.is) ] in
    record {
      written = start_answered t k line _ _ p p' c.args.opened c.match-opened.answer.0 c.match-opened.answer.1 c.in_ok-length.length c.requires begins c.in_ok-length.ensures answer book;
      starts = start_starts t k line p p' c.args.opened c.match-opened.answer.1 begins book;
    }
