-- What the rules of reading come to.
use Rattle.std.specs.Prelude.{◌≡◌, ℕ, List, Ok, Err, Result}
use Rattle.units.specs.Calls.{Value, one, many, Asked, asked, opens}
use Rattle.grammar.specs.Reads.{Accepted, ReadsCall, ReadsOpening}
use Rattle.units.specs.declared.head.Sort.{Sort}
use Rattle.units.specs.declared.head.Sort.TheVariants.{Number, List as Listed}
use Rattle.units.specs.declared.call.Call.{Call}
use Rattle.units.specs.declared.call.Opening.{Opening}
use Rattle.units.specs.declared.fault.Fault.{Fault}

abbrev pub value_sort : Value → Sort
value_sort (one n) = Number
value_sort (many ns) = Listed

-- Of readers that answer an X, or a fault: what is read of a line, and what is refused, is settled by the line alone.
pub record Exact (X : Type 0) (asks : X → Asked) (Reads : List ℕ → Result X Fault → Type 0) : Type 0 where
  -- a line is read in one way
  pub one_reading : (line : List ℕ) (x y : X) → Reads line (Ok x) → Reads line (Ok y) → asks x ≡ asks y
  -- what is read is spelled by one line
  pub one_line : (line other : List ℕ) (x y : X) → Reads line (Ok x) → Reads other (Ok y) → asks x ≡ asks y → line ≡ other
  -- the spelling of something is never refused
  pub complete : (line : List ℕ) (x : X) (e : Fault) → Accepted line (asks x) → Reads line (Err e) → ⊥
  -- a line is refused for one cause
  pub one_refusal : (line : List ℕ) (e f : Fault) → Reads line (Err e) → Reads line (Err f) → e ≡ f

abbrev pub CallsExact : Type 0
CallsExact = Exact Call asked ReadsCall

abbrev pub OpeningsExact : Type 0
OpeningsExact = Exact Opening opens ReadsOpening
