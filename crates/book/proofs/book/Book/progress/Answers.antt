use Rattle.std.proofs.Common.{◌≡◌, get_or, ap, ◌∙◌, arith}
use Rattle.book.proofs.Changes.{slots_few}
use Rattle.book.proofs.book.Book.progress.Goals as goal
use Rattle.book.specs.Questions.{progress_of}
use Rattle.book.specs.Sound.{slots_of}
use Rattle.book.specs.States.{nobody}
use Rattle.book.specs.declared.answers.Progress.{Progress}
use Rattle.book.specs.declared.station.Station.{Station}
use Rattle.units.proofs.Sets.{count_low}
use Rattle.units.specs.declared.limits.TheConstants.{BLOCKS}

pub returns : goal.returns
returns g c =
    let b = c.args.self.now in
    let at = c.in_ok-station.ensures in
    let old = get_or b.stations.items c.args.t nobody in
    let same : c.progress.result ≡ progress_of old.stage = c.progress.ensures ∙ ap (λ (x : Station). progress_of x.stage) at.1.is in
    let sound = b.sound c.args.t nobody at.1.stays.within in
    let filed = ap (λ (p : Progress). p.filed) same in
    let slots = ap (λ (p : Progress). p.revisions) same in
    let days = count_low BLOCKS old.stage.filed.bits sound.in_day (omega arith) in
    let uses = count_low (slots_of old.plant.kind) old.stage.slots.bits sound.in_slots (slots_few old.plant.kind) in
    (at.0, record { is = same; filed = omega (arith, filed, days); revisions = omega (arith, slots, uses) })
