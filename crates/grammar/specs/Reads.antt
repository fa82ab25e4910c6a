-- What reading a line answers.
use Rattle.std.specs.Prelude.{◌≡◌, ℕ, ◌<◌, ◌≤◌, Bool, true, List, map, length, Ok, Err, Result}
use Rattle.std.specs.List.{AllByRecursion}
use Rattle.grammar.specs.Calls.{Held, form, Misfit}
use Rattle.units.specs.Calls.{Asked, asked, opens}
use Rattle.units.specs.Heads.{name, sorts, calls, openings}
use Rattle.grammar.specs.Grammar.{Arg, number, list, Form, Sound, spelled, NotForm}
use Rattle.grammar.specs.declared.line.TheConstants.{LONGEST_LINE}
use Rattle.units.specs.declared.head.Head.{Head}
use Rattle.units.specs.declared.head.Sort.{Sort}
use Rattle.units.specs.declared.head.Sort.TheVariants.{Number, List as Listed}
use Rattle.units.specs.declared.call.Call.{Call}
use Rattle.units.specs.declared.call.Opening.{Opening}
use Rattle.units.specs.declared.fault.Fault.{Fault}
use Rattle.units.specs.declared.fault.Fault.TheVariants as fault

abbrev pub arg_sort : Arg → Sort
arg_sort (number ds) = Number
arg_sort (list bs) = Listed

-- the line is this form, and short enough
pub record Is (line : List ℕ) (f : Form) : Type 0 where
  pub short : length line ≤ LONGEST_LINE
  pub sound : Sound f
  pub bytes : spelled f ≡ line

-- the form begins with the head h, which is wanted
pub record Heads (wanted : Head → Bool) (f : Form) (h : Head) : Type 0 where
  pub named : f.head ≡ name h
  pub taken : wanted h ≡ true

-- Each cause of a refusal, in the order in which they are tested: each excludes those before it.
-- `wanted` are the heads that are taken.
pub data Refused (wanted : Head → Bool) (line : List ℕ) (e : Fault) : Type 0 where
  long : LONGEST_LINE < length line → e ≡ fault.LongLine (length line) → Refused wanted line e
  no_form : (n : ℕ) → length line ≤ LONGEST_LINE → NotForm line n → e ≡ fault.NotForm n → Refused wanted line e
  no_head : (f : Form) → Is line f → ((h : Head) → Heads wanted f h → ⊥) → e ≡ fault.UnknownHead → Refused wanted line e
  misfit : (f : Form) (h : Head) (p : ℕ) → Is line f → Heads wanted f h → Misfit (map arg_sort f.args) (sorts h) p → e ≡ fault.BadArgument p → Refused wanted line e

-- the line is the one that spells this, and a form holds each value
pub record Accepted (line : List ℕ) (a : Asked) : Type 0 where
  pub short : length line ≤ LONGEST_LINE
  pub held : AllByRecursion Held a.values
  pub bytes : spelled (form a) ≡ line

abbrev pub ReadsCall : List ℕ → Result Call Fault → Type 0
ReadsCall line (Ok c) = Accepted line (asked c)
ReadsCall line (Err e) = Refused calls line e

abbrev pub ReadsOpening : List ℕ → Result Opening Fault → Type 0
ReadsOpening line (Ok o) = Accepted line (opens o)
ReadsOpening line (Err e) = Refused openings line e
