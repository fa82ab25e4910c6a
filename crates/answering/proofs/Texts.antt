-- The lines of a statement.
use Rattle.std.proofs.Common.{◌≡◌, ℕ, ◌+◌, ◌<◌, List, [], ◌∷◌, ◌++◌, length, get_or, take, refl, ap, ◌∙◌, arith, length-take}
use Rattle.std.proofs.lemmas.List.{take_more}
use Rattle.answering.specs.Statements.{line_at, lines_from}
use Rattle.posting.specs.declared.account.Account.{Account}

lines-append : (g : ℕ) (xs : List Account) (a : Account) → lines_from g (xs ++ a ∷ []) ≡ lines_from g xs ++ line_at (g + length xs) a ∷ []
lines-append g [] a = grind arith
lines-append g (x ∷ xs) a = grind (arith, lines-append (g + 1) xs a)

-- one more
pub lines_more : (g k : ℕ) (xs : List Account) (d : Account) → k < length xs → lines_from g (take (k + 1) xs) ≡ lines_from g (take k xs) ++ line_at (g + k) (get_or xs k d) ∷ []
lines_more g k xs d h = ap (lines_from g) (take_more xs k d h) ∙ lines-append g (take k xs) (get_or xs k d) ∙ grind (arith, length-take)

pub length-lines : (g : ℕ) (xs : List Account) → length (lines_from g xs) ≡ length xs
length-lines g [] = refl
length-lines g (a ∷ xs) = grind (arith, length-lines (g + 1) xs)
