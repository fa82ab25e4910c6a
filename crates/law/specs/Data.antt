-- What the calls alone give of a day: how far each station has come, what it scheduled, paid and
-- drew, and what was declared and metered of each generator.
use Rattle.std.specs.Prelude.{ℕ, ◌+◌, ◌-◌, ◌&&◌, List, [], ◌∷◌, Some, None, Ok, Err, Option, if◌then◌else◌, ◌==◌, nat_le, slice_index}
use Rattle.book.specs.Calls.{Answer, first_revised}
use Rattle.units.specs.declared.call.Call.{Call}
use Rattle.units.specs.declared.call.Call.TheVariants as call
use Rattle.units.specs.declared.call.Opening.{Opening}
use Rattle.units.specs.declared.station.Phase.{Phase}
use Rattle.units.specs.declared.station.Phase.TheVariants.{Filing, Running, Metering, Settled}

-- What an opening lists: the kind of each station and how many generators it has, and the installed
-- power of each generator.
pub record Layout : Type 0 where
  pub kinds : List ℕ
  pub counts : List ℕ
  pub installed : List ℕ

abbrev pub layout_of : Opening → Layout
layout_of o = record { kinds = o.kinds.now; counts = o.counts.now; installed = o.installed.now }

-- Of each station its phase, its schedule in each block, and all that it paid and drew; of each
-- generator its capacity and its reading in each block.
pub record Data : Type 0 where
  pub phase : ℕ → Phase
  pub schedule : ℕ → ℕ → ℕ
  pub paid : ℕ → ℕ
  pub drawn : ℕ → ℕ
  pub capacity : ℕ → ℕ → ℕ
  pub reading : ℕ → ℕ → Option ℕ

-- as the day begins: nothing filed, each capacity the installed power, nothing read, paid or drawn
abbrev pub at_opening : Layout → Data
at_opening y = record {
  phase = λ t. Filing;
  schedule = λ t b. 0;
  paid = λ t. 0;
  drawn = λ t. 0;
  capacity = λ g b. slice_index y.installed g;
  reading = λ g b. None;
}

-- v for the number n, and for each other what f gives
abbrev pub but : {X : Type 0} → ℕ → X → (ℕ → X) → ℕ → X
but n v f m = if m == n then v else f m

-- v in the blocks from `from` to `to`, and in each other what f gives
abbrev pub but_in : {X : Type 0} → ℕ → ℕ → X → (ℕ → X) → ℕ → X
but_in from to v f b = if nat_le from b && nat_le b to then v else f b

-- From the block on in which a revision with notice in block n takes effect, its values; before, what
-- f gives.
abbrev pub revised_from : ℕ → List ℕ → (ℕ → ℕ) → ℕ → ℕ
revised_from n vs f b =
    if nat_le (first_revised n) b then slice_index vs (b - first_revised n) else f b

-- what a call changes that is accepted
abbrev pub accepting : Call → Data → Data
accepting (call.File t from to kw) d =
    record d { schedule = but t (but_in from to kw (d.schedule t)) d.schedule }
accepting (call.Declare g from to kw) d =
    record d { capacity = but g (but_in from to kw (d.capacity g)) d.capacity }
accepting (call.Issue t) d = record d { phase = but t Running d.phase }
accepting (call.Revise t k n vs) d =
    record d { schedule = but t (revised_from n vs.now (d.schedule t)) d.schedule }
accepting (call.Close t) d = record d { phase = but t Metering d.phase }
accepting (call.Read g from to kw) d =
    record d { reading = but g (but_in from to (Some kw) (d.reading g)) d.reading }
accepting (call.Settle t) d = record d { phase = but t Settled d.phase }
accepting (call.Correct g b kw) d =
    record d { reading = but g (but b (Some kw) (d.reading g)) d.reading }
accepting (call.Pay t x) d = record d { paid = but t (d.paid t + x) d.paid }
accepting (call.Draw t x) d = record d { drawn = but t (d.drawn t + x) d.drawn }

-- a call with its answer: one that is refused changes nothing
abbrev pub after_answer : Call → Answer → Data → Data
after_answer c (Ok done) d = accepting c d
after_answer c (Err fault) d = d

-- calls one after another, with their answers
abbrev pub data_after : List Call → List Answer → Data → Data
data_after [] rs d = d
data_after (c ∷ cs) [] d = d
data_after (c ∷ cs) (r ∷ rs) d = data_after cs rs (after_answer c r d)
