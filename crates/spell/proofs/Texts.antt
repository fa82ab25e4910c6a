-- The texts of numbers and lists. Assumes nothing.
use Rattle.std.proofs.Common.{◌≡◌, ℕ, ◌+◌, ◌<◌, ◌≤◌, List, [], ◌∷◌, ◌++◌, map, length, get_or, take, refl, decimal, sym, ap, append-nil, arith}
use Rattle.std.specs.List.{between}
use Rattle.std.proofs.lemmas.List.{map-append, nil_from_length, set_past}
use Rattle.std.proofs.lemmas.List.Sums.{sum_by_more, sum_by_more_le}
use Rattle.std.proofs.lemmas.Slice.{first_rest}
use Rattle.spell.specs.Pages.{after_spaces}
use Rattle.spell.specs.Words.{room, rooms}
use Rattle.spell.specs.declared.words.Word.{Word}
use Rattle.spell.specs.declared.words.Word.TheVariants.{Number}
use Rattle.spell.proofs.Laying.{laying}
use Rattle.grammar.specs.Grammar.{spaced}

-- the first text, and each other after a space
spaced_first : (text : List ℕ) (texts : List (List ℕ)) → spaced (text ∷ texts) ≡ text ++ after_spaces texts
spaced_first text [] = sym (append-nil text)
spaced_first text (next ∷ texts) = ap (λ l. text ++ 32 ∷ l) (spaced_first next texts)

pub spaced_parts : (ns : List ℕ) → 0 < length ns → spaced (map decimal ns) ≡ decimal (get_or ns 0 0) ++ after_spaces (map decimal (between 1 (length ns) ns))
spaced_parts ns h = grind (arith, first_rest ns 0, spaced_first (decimal (get_or ns 0 0)) (map decimal (between 1 (length ns) ns)))

-- the bytes that the words up to one take

pub room_left : (ws : List Word) (i : ℕ) → i < length ws → rooms (take i ws) + 1 ≤ rooms ws
room_left ws i h = omega (arith, sum_by_more_le (λ w. 1 + room w) ws i (Number 0) h)

pub room_next : (ws : List Word) (i : ℕ) (d : Word) → i < length ws → (get_or ws i d ≡ get_or ws i d) × (rooms (take (i + 1) ws) ≡ rooms (take i ws) + (1 + room (get_or ws i d)))
room_next ws i d h = (refl, sum_by_more (λ w. 1 + room w) ws i d h)

-- for `grind`: what a writer writes
pub ruleset texts = (laying, map-append, spaced_parts, room_left, room_next, nil_from_length, set_past)
