-- A call by its value, and calls one after another.
use Rattle.std.specs.Prelude.{◌≡◌, List, [], ◌∷◌}
use Rattle.book.specs.Calls as calls
use Rattle.book.specs.Calls.{Answer, Outcome}
use Rattle.book.specs.States.{State}
use Rattle.units.specs.declared.call.Call.{Call}
use Rattle.units.specs.declared.call.Call.TheVariants as call

-- what a call does
abbrev pub step : Call → State → Outcome
step (call.File t from to kw) s = calls.filing t from to kw s
step (call.Declare g from to kw) s = calls.declaring g from to kw s
step (call.Issue t) s = calls.issuing t s
step (call.Revise t k n vs) s = calls.revising t k n vs.now s
step (call.Close t) s = calls.closing t s
step (call.Read g from to kw) s = calls.metering g from to kw s
step (call.Settle t) s = calls.settling t s
step (call.Correct g b kw) s = calls.correcting g b kw s
step (call.Pay t x) s = calls.payment t x s
step (call.Draw t x) s = calls.drawing t x s

-- The calls were made one after another, from s to e, with these answers; a refused one too has its answer, and the next follows.
abbrev pub Run : State → List Call → List Answer → State → Type 0
Run s [] [] e = s ≡ e
Run s [] (r ∷ rs) e = ⊥
Run s (c ∷ cs) [] e = ⊥
Run s (c ∷ cs) (r ∷ rs) e =
    ((step c s).answer ≡ r) × Run (step c s).after cs rs e
