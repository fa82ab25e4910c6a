-- How a request is read line by line.
use Rattle.std.specs.Prelude.{◌≡◌, ℕ, ◌+◌, ◌⊎◌, List, [], ◌∷◌, length, Some, None, Ok, Err, Option, Result}
use Rattle.quoting.specs.Drafts.{Made}
use Rattle.quoting.specs.Steps.{Given, nothing, tests, taken, ending}
use Rattle.quoting.specs.Words.{Said, Says}
use Rattle.quoting.specs.declared.complaint.Cause.{Cause}
use Rattle.quoting.specs.declared.complaint.Complaint.{Complaint}
use Rattle.quoting.specs.declared.request.Request.{Request}
use Rattle.std.specs.Str.Lines.{IsFirstLine}
use Rattle.units.specs.Refusals.{first}

-- Why a line is refused, after what was given before it.
abbrev pub refusal : Given → Said → Option Cause
refusal s (Ok None) = None
refusal s (Ok (Some e)) = first (tests s e)
refusal s (Err c) = Some c

-- What is given after an accepted line.
abbrev pub after : Given → Said → Given
after s (Ok None) = s
after s (Ok (Some e)) = taken s e
after s (Err c) = s

abbrev pub blamed : ℕ → Option Cause → Result Given Complaint → Result Given Complaint
blamed n None r = r
blamed n (Some c) r = Err (record { line = n; cause = c })

-- What lines give, the first of them line n; or the first of them that is refused, and why.
abbrev pub read : ℕ → Given → List Said → Result Given Complaint
read n s [] = Ok s
read n s (x ∷ rest) = blamed n (refusal s x) (read (n + 1) (after s x) rest)

-- The first lines of a text say xs, and `rest` follows them.
abbrev pub Begins : List ℕ → List Said → List ℕ → Type 0
Begins text [] rest = text ≡ rest
Begins text (x ∷ xs) rest = (line : List ℕ) × (more : List ℕ) × IsFirstLine text line more × Says line x × Begins more xs rest

-- A text is granted the request that its lines give.
pub record Granted (text : List ℕ) (q : Request) : Type 0 where
  pub says : List Said
  pub given : Given
  pub rest : List ℕ
  pub begins : Begins text says rest
  pub ends : length rest ≡ 0
  pub reads : read 1 nothing says ≡ Ok given
  pub complete : first (ending given) ≡ None
  pub made : Made given q

-- At the end of its lines a text lacks something, which is missed on the line after the last.
pub record Lacking (says : List Said) (rest : List ℕ) (c : Complaint) : Type 0 where
  pub given : Given
  pub ends : length rest ≡ 0
  pub reads : read 1 nothing says ≡ Ok given
  pub missing : first (ending given) ≡ Some c.cause
  pub line : c.line ≡ length says + 1

-- A text is refused for the first of its lines that is refused, or for what it lacks.
pub record Refused (text : List ℕ) (c : Complaint) : Type 0 where
  pub says : List Said
  pub rest : List ℕ
  pub begins : Begins text says rest
  pub why : (read 1 nothing says ≡ Err c) ⊎ Lacking says rest c
