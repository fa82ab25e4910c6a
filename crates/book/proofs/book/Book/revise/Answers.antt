use Rattle.std.proofs.Common.{◌≡◌, get_or, Some, sym, ap, ◌∙◌, subst}
use Rattle.book.proofs.Changes.{own, revised_back}
use Rattle.book.proofs.Places.{put_back}
use Rattle.book.proofs.book.Book.revise.Goals as goal
use Rattle.book.specs.Stations.{slot_of}
use Rattle.book.specs.declared.station.plant.Plant.{Plant}

pub invariant_of-self : goal.invariant_of-self
invariant_of-self g c =
    let b = c.args.self.now in
    let lent = c.deref_mut.result.now in
    let t = c.args.t in
    let d = c.index-deref_mut-t.result in
    let same = c.deref_mut.ensures.value in
    let becomes = c.in_ok-station.ensures.1.becomes in
    let plant = becomes.placed d ∙ ap (λ zs. (get_or zs t d).plant) (sym same) in
    let noticed = subst (λ (p : Plant). slot_of p.kind c.args.notice ≡ Some c.in_ok-slot.slot) plant c.in_ok-slot.ensures.1.slotted in
    put_back b lent t _ same (revised_back (own b lent t d becomes.within same).stays c.args.notice c.in_ok-slot.slot c.revise.new.self noticed c.revise.ensures)
