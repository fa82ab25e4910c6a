-- Answers fit their page. Assumes nothing.
use Rattle.std.proofs.Common.{◌≡◌, ◌^◌, ◌<◌, ◌≤◌, [], ◌∷◌, length, codes, decimal, arith, append_assoc, append-nil, length-append}
use Rattle.std.proofs.lemmas.Fmt.{length-decimal-le}
use Rattle.units.specs.Faults.{refusal_of}
use Rattle.units.specs.declared.fault.Fault.{Fault}
use Rattle.units.specs.declared.fault.Refusal.{Refusal}
use Rattle.spell.specs.Answers.{refusal_line}
use Rattle.spell.specs.Pages.{line_fed}
use Rattle.spell.specs.declared.answers.TheConstants.{ANSWER_PAGE}

-- as a writer writes it
pub refusal_line_is : (r : Refusal) → refusal_line r ≡ line_fed (codes "no") (decimal r.layer ∷ decimal r.number ∷ decimal r.place.0 ∷ decimal r.place.1 ∷ [])
unfolding refusal_line
refusal_line_is r = grind (arith, append_assoc, append-nil)

pub few_digits : (f : Fault) → ((refusal_of f).layer < 10) × ((refusal_of f).number < 100)
few_digits f = grind arith

pub refusal_fits : (r : Refusal) → r.layer < 10 → r.number < 100 → r.place.0 < 2 ^ 64 → r.place.1 < 2 ^ 64 → length (refusal_line r) ≤ ANSWER_PAGE
refusal_fits r l n p q =
    let layer = length-decimal-le 1 r.layer (omega arith) (omega arith) (omega arith) in
    let number = length-decimal-le 2 r.number (omega arith) (omega arith) (omega arith) in
    let first = length-decimal-le 20 r.place.0 (omega arith) (omega arith) p in
    let second = length-decimal-le 20 r.place.1 (omega arith) (omega arith) q in
    rw refusal_line_is (simp length-append (omega arith))

pub ruleset refusals = (refusal_line_is, few_digits, refusal_fits)
