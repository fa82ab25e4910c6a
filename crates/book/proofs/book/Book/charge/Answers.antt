use Rattle.std.proofs.Common.{◌∙◌, ap, rules}
use Rattle.book.proofs.book.Book.charge.Goals as goal
use Rattle.book.specs.States.{day_at, state}
use Rattle.posting.specs.Days.{figures_at}

pub returns : goal.returns
returns g c =
    let s = state c.args.self.now c.args.pages.now in
    let block = c.args.block in
    let members = ap (λ x. x.plant.members) c.in_ok-station.ensures.1.is in (
      search rules,
      c.figures.ensures.value g.K.Key.weighs ∙ ap (λ d. figures_at d block) c.day_of-day.ensures
          ∙ ap (λ m. figures_at (day_at s c.args.t m) block) members,
    )
