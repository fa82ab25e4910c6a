-- What the parts of a line say as arguments.
use Rattle.std.specs.Prelude.{ℕ, Bool, true, false, List, [], ◌∷◌, map, slice_index_or}
use Rattle.grammar.specs.Grammar.{number}
use Rattle.grammar.specs.Calls.{value}
use Rattle.grammar.specs.Reads.{arg_sort}
use Rattle.tokens.specs.Tokens.{arg_of}
use Rattle.tokens.specs.declared.token.Part.{Part}
use Rattle.tokens.specs.declared.token.Part.TheVariants.{List as Listed}
use Rattle.units.specs.Calls.{Value, one, many}
use Rattle.units.specs.declared.head.Sort.{Sort}

abbrev pub part_sort : Part → Sort
part_sort p = arg_sort (arg_of p)

abbrev pub is_list : Part → Bool
is_list (Listed numbers) = true
is_list _ = false

-- what arguments say
abbrev pub values_of : List Part → List Value
values_of ps = map value (map arg_of ps)

-- what the argument at a place says: 0 where there is none
abbrev pub said_at : List Part → ℕ → Value
said_at ps i = value (slice_index_or (map arg_of ps) i (number []))

-- the numbers of the first list among the values: none where there is no list
abbrev pub first_list : List Value → List ℕ
first_list [] = []
first_list (one n ∷ vs) = first_list vs
first_list (many ns ∷ vs) = ns

-- the value, with these numbers if it is a list
abbrev pub with_list : List ℕ → Value → Value
with_list ns (one n) = one n
with_list ns (many ms) = many ns

-- what the arguments of a call say where there is room for one list, which is the first one's
abbrev pub call_values : List Value → List Value
call_values vs = map (with_list (first_list vs)) vs
