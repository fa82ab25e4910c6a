-- Calls one after another: one more, and all of them.
use Rattle.std.proofs.Common.{◌≡◌, ℕ, ◌+◌, ◌<◌, ◌≤◌, List, [], ◌∷◌, ◌++◌, length, get_or, take, sym, subst}
use Rattle.book.specs.Calls.{Answer}
use Rattle.book.specs.Runs.{Run, step}
use Rattle.book.specs.States.{State}
use Rattle.std.proofs.lemmas.List.{take_all, take_more}
use Rattle.units.specs.declared.call.Call.{Call}

run_push : (cs : List Call) (rs : List Answer) (s m e : State) (c : Call) (r : Answer) → Run s cs rs m
    → r ≡ (step c m).answer → e ≡ (step c m).after → Run s (cs ++ c ∷ []) (rs ++ r ∷ []) e
run_push [] [] s m e c r run a b = subst (λ (x : State). ((step c x).answer ≡ r) × ((step c x).after ≡ e)) (sym run) (sym a, sym b)
run_push [] (x ∷ rs) s m e c r run a b = absurd run
run_push (x ∷ cs) [] s m e c r run a b = absurd run
run_push (x ∷ cs) (y ∷ rs) s m e c r run a b = (run.0, run_push cs rs _ m e c r run.1 a b)

pub run_more : (cs : List Call) (i : ℕ) (d : Call) (rs ts : List Answer) (s m e : State) (r : Answer) → i < length cs → Run s (take i cs) rs m
    → r ≡ (step (get_or cs i d) m).answer → e ≡ (step (get_or cs i d) m).after → ts ≡ rs ++ r ∷ [] → Run s (take (i + 1) cs) ts e
run_more cs i d rs ts s m e r h run a b pushed =
    subst (λ (xs : List Call). Run s xs ts e) (sym (take_more cs i d h))
    (subst (λ (ys : List Answer). Run s (take i cs ++ get_or cs i d ∷ []) ys e) (sym pushed)
    (run_push (take i cs) rs s m e (get_or cs i d) r run a b))

pub run_all : (cs : List Call) (i : ℕ) (rs : List Answer) (s e : State) → length cs ≤ i → Run s (take i cs) rs e → Run s cs rs e
run_all cs i rs s e h run = subst (λ (xs : List Call). Run s xs rs e) (take_all i cs h) run
