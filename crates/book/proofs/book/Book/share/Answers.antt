use Rattle.std.proofs.Common.{◌≡◌, ◌-◌, List, get_or, ap, ◌∙◌}
use Rattle.book.proofs.Shares.{not_refused, share_same}
use Rattle.book.proofs.book.Book.share.Goals as goal
use Rattle.book.specs.States.{day_at, owner_of, state, station_at}
use Rattle.posting.specs.Amounts.{no_amounts}
use Rattle.share.specs.declared.amounts.Amounts.{Amounts}

pub returns : goal.returns
returns g c =
    let asked = c.args.generator in
    let s = state c.args.self.now c.args.pages.now in
    let m = c.in_ok-t.station.plant.members in
    let own = c.in_ok-t.ensures.1 in
    let members : m ≡ (station_at s (owner_of s asked)).plant.members = ap (λ x. x.plant.members) own.is ∙ ap (λ t. (station_at s t).plant.members) own.owner.is in
    let place : asked - c.first.result ≡ asked - (station_at s (owner_of s asked)).plant.members.first = ap (λ n. asked - n) (c.first.ensures ∙ ap (λ x. x.first) members) in
    let days = c.day_of-day.ensures ∙ ap (λ t. day_at s t m) own.owner.is ∙ ap (day_at s (owner_of s asked)) members in (
      not_refused asked c.args.block s m c.deref.result.now c.in_ok-t.ensures.0 members c.deref.ensures.value c.in_ok-block_read.ensures.0,
      ap (λ (xs : List Amounts). get_or xs (asked - c.first.result) no_amounts) c.as_slice.ensures
          ∙ c.shares-shares.ensures.each (asked - c.first.result)
          ∙ share_same c.args.block days place,
    )
