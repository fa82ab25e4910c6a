-- A call that is taken apart and made again.
use Rattle.std.proofs.Common.{◌≡◌, false, map, Some, None, Option, IsSomeAnd, refl, ap, ◌∙◌, rules}
use Rattle.std.proofs.lemmas.Bool.{both_ways}
use Rattle.units.specs.Calls.{IsCallOf, parts_said, said, value_of, with_values}
use Rattle.units.specs.Heads.{openings}
use Rattle.units.specs.declared.call.Call.{Call}
use Rattle.units.specs.declared.call.Call.TheVariants as call
use Rattle.units.specs.declared.call.Parts.{Parts}

no_opening : (c : Call) → openings (said c).head ≡ false
no_opening (call.Issue t) = refl
no_opening _ = refl

pub made_again : (p : Parts) (c : Call) (r : Option Call) → parts_said p ≡ said c → IsCallOf p.head (map value_of p.values) r → IsSomeAnd r (λ d. said d ≡ said c)
made_again p c None e k = absurd (both_ways _ (ap (λ s. openings s.head) e ∙ no_opening c) k)
made_again p c (Some d) e k = let whole : with_values p.head (map value_of p.values) ≡ said c = search rules in k.1 ∙ whole
