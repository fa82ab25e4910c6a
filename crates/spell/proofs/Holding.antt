-- Which words a form holds. Assumes nothing.
use Rattle.std.proofs.Common.{◌≡◌, ℕ, ◌+◌, ◌*◌, ◌^◌, ◌≤◌, Bool, true, not, None, List, [], ◌∷◌, length, refl, arith}
use Rattle.std.specs.List.{list_all, position_or_len}
use Rattle.std.proofs.lemmas.Bool.Decides.{nat_tests}
use Rattle.std.proofs.lemmas.List.Sums.{sum_by-cons}
use Rattle.grammar.proofs.Exactly.{name_word}
use Rattle.units.specs.Heads.{name}
use Rattle.units.specs.declared.call.TheConstants.{MOST_ARGUMENTS}
use Rattle.units.specs.declared.head.Head.{Head}
use Rattle.spell.specs.Causes.{misfit}
use Rattle.spell.specs.Words.{held_word, room, rooms, line_room}
use Rattle.spell.specs.declared.words.Word.{Word}

module _ {X : Type 0} (test : X → Bool) where
  -- how many items stand before the first that fails
  abbrev passing : List X → ℕ
  passing = position_or_len (λ x. not (test x))

  all_from_passing : (xs : List X) → length xs ≤ passing xs → list_all test xs ≡ true
  all_from_passing [] h = refl
  all_from_passing (x ∷ xs) h = grind (arith, nat_tests, all_from_passing xs)

  passing_from_all : (xs : List X) → list_all test xs ≡ true → length xs ≤ passing xs
  passing_from_all [] h = omega arith
  passing_from_all (x ∷ xs) h = grind (arith, nat_tests, passing_from_all xs)

  pub all_fit : (xs : List X) → misfit test xs ≡ None → list_all test xs ≡ true
  all_fit xs e = grind (arith, nat_tests, all_from_passing xs)

  pub no_misfit : (xs : List X) → list_all test xs ≡ true → misfit test xs ≡ None
  no_misfit xs h = grind (arith, nat_tests, passing_from_all xs)

-- held words are not long

held_room : (w : Word) → held_word w ≡ true → room w ≤ 2018
held_room w h = grind (arith, nat_tests)

held_rooms : (ws : List Word) → misfit held_word ws ≡ None → rooms ws ≤ 2019 * length ws
held_rooms ws e = each ws (all_fit held_word ws e)
  where
    each : (ws : List Word) → list_all held_word ws ≡ true → rooms ws ≤ 2019 * length ws
    each [] h = omega arith
    each (w ∷ ws) h = grind (arith, sum_by-cons (λ w. 1 + room w) w ws, held_room w, each ws)

pub line_has_room : (h : Head) (ws : List Word) → length ws ≤ MOST_ARGUMENTS → misfit held_word ws ≡ None → line_room (name h) ws ≤ 2 ^ 32
line_has_room h ws few e = omega (arith, held_rooms ws e, (name_word h).2)
