-- What is written for an answer.
use Rattle.std.specs.Prelude.{ℕ, List, [], ◌∷◌, ◌++◌, Ok, Err, codes, Result}
use Rattle.units.specs.Faults.{refusal_of, refusal_text}
use Rattle.units.specs.declared.fault.Fault.{Fault}
use Rattle.units.specs.declared.fault.Refusal.{Refusal}
use Rattle.spell.specs.Causes.{short_page}
use Rattle.spell.specs.Pages.{Wrote, writing, line_fed}
use Rattle.spell.specs.declared.answers.TheConstants.{ANSWER_PAGE}

-- with a line feed
unfoldable pub refusal_line : Refusal → List ℕ
refusal_line r = refusal_text r ++ 10 ∷ []

abbrev pub answer_text : Result Unit Fault → List ℕ
answer_text (Ok u) = line_fed (codes "ok") []
answer_text (Err f) = refusal_line (refusal_of f)

abbrev pub answering : Result Unit Fault → List ℕ → Wrote
answering a page = writing (short_page ANSWER_PAGE page) (answer_text a) page
