-- Runs of entries: one more, and their calls.
use Rattle.std.proofs.Common.{◌≡◌, ℕ, List, [], ◌∷◌, ◌++◌, None, Some, Ok, Err, Option, sym, ap, ◌∙◌, subst}
use Rattle.answering.specs.Entries.{EachTaken, Entry, Read, Taken, Taking, Went, answered, answers_in, calls_in, no_room, text, typed}
use Rattle.book.specs.Calls.{Answer, Outcome}
use Rattle.book.specs.Runs.{Run, step}
use Rattle.book.specs.States.{State}
use Rattle.grammar.proofs.Exactly.{calls_exact, one_head}
use Rattle.units.specs.Calls.{Asked, asked, said}
use Rattle.units.specs.declared.call.Call.{Call}
use Rattle.units.specs.declared.call.Call.TheVariants as call
use Rattle.units.specs.declared.fault.Fault.{Fault}

-- two calls that ask for the same do the same

said_same : (c d : Call) (s : State) → (said c).head ≡ (said d).head → (said c).values ≡ (said d).values → step c s ≡ step d s
said_same (call.Issue t) (call.Issue u) s heads values = cc
said_same _ (call.Issue u) s heads values = cc
said_same _ _ s heads values = cc

same_step : (c d : Call) (s : State) → asked c ≡ asked d → step c s ≡ step d s
same_step c d s e =
    said_same c d s (one_head (said c).head (said d).head (ap (λ (a : Asked). a.head) e)) (ap (λ (a : Asked). a.values) e)

-- an entry is taken in one way

one_read : (m : Option Fault) (line : List ℕ) (t u : Taking) (s : State) → Read m line t → Read m line u → answered t s ≡ answered u s
one_read None line (Ok c) (Ok d) s p q = same_step c d s (calls_exact.one_reading line c d p q)
one_read None line (Ok c) (Err f) s p q = absurd (calls_exact.complete line c f p q)
one_read None line (Err f) (Ok d) s p q = absurd (calls_exact.complete line d f q p)
one_read None line (Err f) (Err g) s p q = ap (λ (x : Fault). answered (Err x) s) (calls_exact.one_refusal line f g p q)
one_read (Some f) line t u s p q = ap (λ (x : Taking). answered x s) (p ∙ sym q)

one_taking : (x : Entry) (t u : Taking) (s : State) → Taken x t → Taken x u → answered t s ≡ answered u s
one_taking (typed c) t u s p q = ap (λ (x : Taking). answered x s) (p ∙ sym q)
one_taking (text line room) t u s p q = one_read (no_room room) line t u s p q

pub went_as : (xs : List Entry) (ts us : List Taking) (rs : List Answer) (s e : State) → EachTaken xs ts → EachTaken xs us → Went s ts rs e → Went s us rs e
went_as [] [] [] rs s e p q w = w
went_as [] [] (u ∷ us) rs s e p q w = absurd q
went_as [] (t ∷ ts) us rs s e p q w = absurd p
went_as (x ∷ xs) [] us rs s e p q w = absurd p
went_as (x ∷ xs) (t ∷ ts) [] rs s e p q w = absurd q
went_as (x ∷ xs) (t ∷ ts) (u ∷ us) [] s e p q w = absurd w
went_as (x ∷ xs) (t ∷ ts) (u ∷ us) (r ∷ rs) s e p q w =
    subst (λ (o : Outcome). (o.answer ≡ r) × Went o.after us rs e) (one_taking x t u s p.0 q.0)
    (w.0, went_as xs ts us rs _ e p.1 q.1 w.1)

-- a run of entries is a run of their calls
pub went_calls : (ts : List Taking) (rs : List Answer) (s e : State) → Went s ts rs e → Run s (calls_in ts) (answers_in ts rs) e
went_calls [] [] s e w = w
went_calls [] (r ∷ rs) s e w = absurd w
went_calls (t ∷ ts) [] s e w = absurd w
went_calls (Ok c ∷ ts) (r ∷ rs) s e w = (w.0, went_calls ts rs _ e w.1)
went_calls (Err f ∷ ts) (r ∷ rs) s e w = went_calls ts rs s e w.1

-- one more
pub went_more : (ts : List Taking) (rs : List Answer) (s m e : State) (t : Taking) (r : Answer) → Went s ts rs m
    → r ≡ (answered t m).answer → e ≡ (answered t m).after → Went s (ts ++ t ∷ []) (rs ++ r ∷ []) e
went_more [] [] s m e t r w a b = subst (λ (x : State). ((answered t x).answer ≡ r) × ((answered t x).after ≡ e)) (sym w) (sym a, sym b)
went_more [] (x ∷ rs) s m e t r w a b = absurd w
went_more (x ∷ ts) [] s m e t r w a b = absurd w
went_more (x ∷ ts) (y ∷ rs) s m e t r w a b = (w.0, went_more ts rs _ m e t r w.1 a b)

pub taken_more : (xs : List Entry) (ts : List Taking) (x : Entry) (t : Taking) → EachTaken xs ts → Taken x t → EachTaken (xs ++ x ∷ []) (ts ++ t ∷ [])
taken_more [] [] x t p q = (q, tt)
taken_more [] (u ∷ ts) x t p q = absurd p
taken_more (y ∷ xs) [] x t p q = absurd p
taken_more (y ∷ xs) (u ∷ ts) x t p q = (p.0, taken_more xs ts x t p.1 q)
