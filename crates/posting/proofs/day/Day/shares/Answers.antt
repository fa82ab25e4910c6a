use Rattle.std.proofs.Common.{length, ap, ◌∙◌}
use Rattle.posting.proofs.Blocks.{block_alive, length_loads}
use Rattle.posting.proofs.day.Day.shares.Goals as goal
use Rattle.posting.specs.Days.{the_day}
use Rattle.posting.specs.Sheets.{sheet_of}
use Rattle.share.proofs.Fairness.{fair}
use Rattle.std.proofs.lemmas.List.{length-map}

pub returns-clause-count : goal.returns-clause-count
returns-clause-count g c =
    c.new.ensures.count ∙ ap length c.weighed.ensures.weights ∙ length-map _ _ ∙ length_loads (sheet_of c.args.self.now.pages.now) c.args.block _ _

pub returns-clause-fair : goal.returns-clause-fair
returns-clause-fair g c =
    let alive = block_alive (the_day g.T.Tariff g.K.Key c.args.self.now) g.met.K.Key.alive c.args.block in
    (fair _ _ alive, fair _ _ alive)
