-- How a draft takes a line.
use Rattle.std.specs.Prelude.{◌≡◌, ℕ, cond, List, is_ok, Result}
use Rattle.quoting.specs.Drafts.{given_in}
use Rattle.quoting.specs.Lines.{after, refusal}
use Rattle.quoting.specs.Words.{Said, Says}
use Rattle.quoting.specs.declared.complaint.Cause.{Cause}
use Rattle.quoting.specs.declared.draft.Draft.{Draft}
use Rattle.std.specs.Result.{result_err}

-- A line that says x is answered by why it is refused, if it is. It adds what it gives, or nothing where it is refused.
abbrev pub Took : List ℕ → Draft → Result (Unit {0}) Cause → Draft → Type 0
Took line before r exit =
    (x : Said) × Says line x × (result_err r ≡ refusal (given_in before) x) × (given_in exit ≡ cond (is_ok r) (after (given_in before) x) (given_in before))
