-- What a generator is told of its share.
use Rattle.std.proofs.Common.{◌≡◌, ℕ, [], ◌∷◌, List, None, Option, subst}
use Rattle.book.specs.Calls.{missing_reading}
use Rattle.book.specs.Causes.{bad_blocks}
use Rattle.book.specs.Questions.{share_refusal}
use Rattle.units.specs.Refusals.{first}
use Rattle.book.specs.States.{State, generator_admission, owner_of, station_at}
use Rattle.book.specs.Stations.{Ask}
use Rattle.posting.specs.Days.{StationDay, share_at}
use Rattle.posting.specs.Missing.{missing_in}
use Rattle.posting.specs.declared.members.Members.{Members}

-- the checks that passed are those of the question
pub not_refused : (g b : ℕ) (s : State) (m : Members) (rs : List (Option ℕ)) → generator_admission Ask g s ≡ None → m ≡ (station_at s (owner_of s g)).plant.members → rs ≡ s.readings
    → first (bad_blocks b b ∷ missing_reading (missing_in rs None b m.first m.count) ∷ []) ≡ None → share_refusal g b s ≡ None
not_refused g b s m rs admitted is read clear =
    let told : first (bad_blocks b b ∷ missing_reading (missing_in s.readings None b m.first m.count) ∷ []) ≡ None =
    subst (λ (xs : List (Option ℕ)). first (bad_blocks b b ∷ missing_reading (missing_in xs None b m.first m.count) ∷ []) ≡ None) read clear in
    rw admitted (subst (λ (n : Members). first (bad_blocks b b ∷ missing_reading (missing_in s.readings None b n.first n.count) ∷ []) ≡ None) is told)

pub share_same : {d e : StationDay} {k j : ℕ} (b : ℕ) → d ≡ e → k ≡ j → share_at d k b ≡ share_at e j b
share_same b days places = rw (days, places)
