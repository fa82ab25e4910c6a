-- What reading a line as a form answers.
use Rattle.std.specs.Prelude.{◌≡◌, ℕ, Bool, true, List, map, length, take, Ok, Err, Result}
use Rattle.grammar.specs.Calls.{Misfit}
use Rattle.grammar.specs.Grammar.{Form}
use Rattle.grammar.specs.Reads.{Is, Accepted, Refused}
use Rattle.units.specs.declared.head.Head.{Head}
use Rattle.units.specs.declared.head.Sort.{Sort}
use Rattle.units.specs.declared.fault.Fault.{Fault}
use Rattle.units.specs.declared.fault.Fault.TheVariants.{BadArgument}
use Rattle.tokens.specs.Tokens.{arg_of}
use Rattle.lines.specs.Arguments.{part_sort, values_of}
use Rattle.units.specs.Calls.{spoken, with_values}
use Rattle.units.specs.Heads.{sorts}
use Rattle.lines.specs.declared.form.Parts.{Parts}
use Rattle.lines.specs.declared.form.TheConstants.{MOST_GATHERED}

-- the line is a form with this word, so many arguments, and these as the first
pub record Found (line : List ℕ) (parts : Parts) : Type 0 where
  pub form : Form
  pub is : Is line form
  pub named : parts.letters.now ≡ form.head
  pub counted : parts.count ≡ length form.args
  pub kept : map arg_of parts.args.items ≡ take MOST_GATHERED form.args

-- The form that is the line; or, where it is too long or no form, a refusal that does not depend on
-- which heads are wanted.
abbrev pub ReadsForm : List ℕ → Result Parts Fault → Type 0
ReadsForm line (Ok parts) = Found line parts
ReadsForm line (Err e) = ((f : Form) → Is line f → ⊥)
    × ((wanted : Head → Bool) → Refused wanted line e)

-- the sorts are those that are wanted, or the first misfit is refused
abbrev pub Fits : (have want : List Sort) → Result Unit Fault → Type 0
Fits have want (Ok u) = have ≡ want
Fits have want (Err e) = (p : ℕ) × Misfit have want p × (e ≡ BadArgument p)

-- what a test gives of a head is whether it is among these
abbrev pub Tells : (Head → Bool → Type 0) → (Head → Bool) → Type 0
Tells gives heads = (h : Head) (b : Bool) → gives h b → b ≡ heads h

-- The head is wanted, the arguments of these parts fit it, and the line is what it asks for with them.
pub record Fitting (wanted : Head → Bool) (line : List ℕ) (h : Head) (parts : Parts) : Type 0 where
  pub taken : wanted h ≡ true
  pub fits : map part_sort parts.args.items ≡ sorts h
  pub accepted : Accepted line (spoken (with_values h (values_of parts.args.items)))
