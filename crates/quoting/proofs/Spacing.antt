-- The words of a line, one word more.
use Rattle.std.proofs.Common.{◌≡◌, ℕ, ◌<◌, List, [], ◌∷◌, ◌++◌, length, refl, ◌∙◌}
use Rattle.quoting.specs.Words.{Spaced}
use Rattle.std.specs.Char.{is_whitespace, is_not_whitespace}
use Rattle.std.specs.Str.{NoCharPasses, EmptyOrStartsWithPassing}

pub spaced_push : (ws : List (List ℕ)) (text rest more gap w : List ℕ) → Spaced text ws rest → rest ≡ gap ++ (w ++ more) → 0 < length w
    → NoCharPasses is_not_whitespace gap → NoCharPasses is_whitespace w → ((end : List ℕ) × EmptyOrStartsWithPassing is_whitespace more end) → Spaced text (ws ++ (w ∷ [])) more
spaced_push [] text rest more gap w s e some d b o = (gap, more, s ∙ e, some, d, b, o, refl)
spaced_push (x ∷ ws) text rest more gap w s e some d b o =
    (s.0, s.1, s.2, s.3, s.4, s.5, s.6, spaced_push ws s.1 rest more gap w s.7 e some d b o)
