-- What a line asks for, and the form that spells it.
use Rattle.std.specs.Prelude.{◌≡◌, ℕ, ◌+◌, ◌-◌, ◌*◌, ◌^◌, ◌<◌, ◌≤◌, cond, List, [], ◌∷◌, ◌++◌, map, length, take, decimal, min, ◌==◌}
use Rattle.std.specs.List.{AllByRecursion}
use Rattle.grammar.specs.Grammar as grammar
use Rattle.grammar.specs.Grammar.{Arg, number, list, spaced, spelled}
use Rattle.grammar.specs.declared.line.TheConstants.{MOST_DIGITS, MOST_NUMBERS}
use Rattle.units.specs.Calls.{Value, one, many, Asked}
use Rattle.units.specs.declared.head.Sort.{Sort}

-- a number that a form holds
abbrev pub Small : ℕ → Type 0
Small n = n < 10 ^ MOST_DIGITS

-- a value that a form holds
abbrev pub Held : Value → Type 0
Held (one n) = Small n
Held (many ns) = (1 ≤ length ns) × (length ns ≤ MOST_NUMBERS) × AllByRecursion Small ns

abbrev pub argument : Value → Arg
argument (one n) = number (decimal n)
argument (many ns) = list (spaced (map decimal ns))

abbrev pub form : Asked → grammar.Form
form a = record { head = a.head; args = map argument a.values }

-- the number that digits write, and the numbers that stand between spaces

abbrev pub read_on : ℕ → List ℕ → ℕ
read_on n [] = n
read_on n (c ∷ cs) = read_on (10 * n + (c - 48)) cs

abbrev pub pieces : List ℕ → List ℕ → List (List ℕ)
pieces cur [] = cur ∷ []
pieces cur (b ∷ bs) = cond (b == 32) (cur ∷ pieces [] bs) (pieces (cur ++ b ∷ []) bs)

abbrev pub value : Arg → Value
value (number ds) = one (read_on 0 ds)
value (list bs) = many (map (read_on 0) (pieces [] bs))

-- two lines that are spelled alike ask for the same
abbrev pub Canonical : Type 0
Canonical = (a b : Asked) → grammar.Word a.head → grammar.Word b.head → AllByRecursion Held a.values → AllByRecursion Held b.values → spelled (form a) ≡ spelled (form b) → a ≡ b

-- the p-th sort, from 1, is the first that differs or that only one of the lists has
pub record Misfit (have want : List Sort) (p : ℕ) : Type 0 where
  pub counted : 1 ≤ p
  pub before : take (p - 1) have ≡ take (p - 1) want
  pub within : p - 1 ≤ min (length have) (length want)
  pub here : take p have ≡ take p want → ⊥
