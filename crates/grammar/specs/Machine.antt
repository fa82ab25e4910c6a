-- The reader as a machine that takes the line byte by byte.
--
-- The reader of a line's parts speaks of it; what reading a line answers does not: `proofs/Reading.antt`
-- shows that `outcome` finds the form that a line spells, or the longest start of a form.
use Rattle.std.specs.Prelude.{ℕ, suc, Bool, false, cond, ◌&&◌, List, [], ◌∷◌, ◌++◌, length, Some, None, Option, ◌==◌, nat_lt, slice_index}
use Rattle.std.specs.List.{flat_map}
use Rattle.std.specs.Int.{is_in_range}
use Rattle.grammar.specs.Grammar.{Arg, number, list, Form}
use Rattle.grammar.specs.declared.line.TheConstants.{MOST_DIGITS, MOST_LETTERS, MOST_NUMBERS}

abbrev pub with_arg : Form → Arg → Form
with_arg f a = record { head = f.head; args = f.args ++ a ∷ [] }

-- numbers with a space after each
abbrev pub led : List (List ℕ) → List ℕ
led ns = flat_map (λ n. n ++ 32 ∷ []) ns

-- where a number stands: as an argument of the form so far, or in a list after these numbers
pub data Spot : Type 0 where
  top : Form → Spot
  inside : Form → List (List ℕ) → Spot

pub data State : Type 0 where
  start : State
  word : List ℕ → State
  need : Spot → State
  digits : Spot → List ℕ → State
  closed : Form → State
  done : Form → State

-- a digit may follow these
abbrev pub grows : List ℕ → Bool
grows ds = cond (slice_index ds 0 == 48) false (nat_lt (length ds) MOST_DIGITS)

abbrev pub after : Form → ℕ → Option State
after f b = cond (b == 32) (Some (need (top f))) (cond (b == 41) (Some (done f)) None)

abbrev pub listed : Form → List (List ℕ) → List ℕ → ℕ → Option State
listed f ns ds b =
    cond (b == 32)
    (cond (nat_lt (suc (length ns)) MOST_NUMBERS) (Some (need (inside f (ns ++ ds ∷ [])))) None)
    (cond (b == 41) (Some (closed (with_arg f (list (led ns ++ ds))))) None)

abbrev pub numbered : Spot → List ℕ → ℕ → Option State
numbered (top f) ds b = after (with_arg f (number ds)) b
numbered (inside f ns) ds b = listed f ns ds b

abbrev pub named : List ℕ → ℕ → Option State
named [] b = None
named (x ∷ w) b = after (record { head = x ∷ w; args = [] }) b

abbrev pub opens : Spot → ℕ → Option State
opens (top f) b = cond (b == 40) (Some (need (inside f []))) None
opens (inside f ns) b = None

abbrev pub step : State → ℕ → Option State
step start b = cond (b == 40) (Some (word [])) None
step (word w) b = cond (is_in_range 97 122 b && nat_lt (length w) MOST_LETTERS) (Some (word (w ++ b ∷ []))) (named w b)
step (need p) b = cond (is_in_range 48 57 b) (Some (digits p (b ∷ []))) (opens p b)
step (digits p ds) b = cond (is_in_range 48 57 b && grows ds) (Some (digits p (ds ++ b ∷ []))) (numbered p ds b)
step (closed f) b = after f b
step (done f) b = None

-- the whole line is a form, or no form goes on past some byte: how many bytes are left there
pub data Outcome : Type 0 where
  whole : Form → Outcome
  stuck : ℕ → Outcome

abbrev pub ended : State → Outcome
ended start = stuck 0
ended (word w) = stuck 0
ended (need p) = stuck 0
ended (digits p ds) = stuck 0
ended (closed f) = stuck 0
ended (done f) = whole f

abbrev pub outcome : State → List ℕ → Outcome
outcome s [] = ended s
outcome s (b ∷ bs) = elim (step s b) [ None ↦ stuck (suc (length bs)) | Some t ↦ outcome t bs ]
