-- One text laid after another. Assumes nothing.
use Rattle.std.proofs.Common.{◌≡◌, ℕ, suc, ◌+◌, ◌≤◌, List, [], ◌∷◌, ◌++◌, length, take, drop, set, refl, arith, length-append}
use Rattle.std.proofs.lemmas.List.{take_more_set, drop-set-lt, take-append-drop, append_assoc, append-nil, take_all}
use Rattle.std.proofs.lemmas.Grind.{common_steps, take_at_read, flat_map-append}
use Rattle.std.proofs.lemmas.Bool.Decides.{nat_tests}
use Rattle.spell.specs.Pages.{laid, onto}

pub laid_none : (at : ℕ) (page : List ℕ) → laid at [] page ≡ page
unfolding laid
laid_none at page = refl

pub laid_byte : (at b : ℕ) (bs page : List ℕ) → laid at (b ∷ bs) page ≡ laid (suc at) bs (set page at b)
unfolding laid
laid_byte at b bs page = refl

pub laid_append : (at : ℕ) (s t page : List ℕ) → laid at (s ++ t) page ≡ laid (at + length s) t (laid at s page)
unfolding laid
laid_append at [] t page = grind arith
laid_append at (b ∷ s) t page = grind (arith, laid_append (suc at) s t (set page at b))

laid_is : (at : ℕ) (text page : List ℕ) → at + length text ≤ length page → laid at text page ≡ take at page ++ (text ++ drop (at + length text) page)
unfolding laid
laid_is at [] page h = grind (arith, take-append-drop at page)
laid_is at (b ∷ bs) page h = grind (arith, common_steps, laid_is (at + 1) bs (set page at b), take_more_set page at b, drop-set-lt (at + 1 + length bs) page at b)

-- a text that the page has room for stands at its front
pub laid_onto : (text page : List ℕ) → length text ≤ length page → laid 0 text page ≡ onto text page
laid_onto text page fits = grind (arith, laid_is 0 text page)

-- for `grind`: one text after another, and a text at the front of a page
pub ruleset laying = (laid_none, laid_byte, laid_append, length-append, append_assoc, append-nil, take_at_read, take_all, flat_map-append)

pub ruleset onto_page = (nat_tests, laid_onto)
