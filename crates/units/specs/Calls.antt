-- A call as a head and the values of its arguments.
use Rattle.std.specs.Prelude.{◌≡◌, ℕ, zero, suc, ◌+◌, List, [], ◌∷◌, map, length, take, slice_index_or, true, Some, None, Option}
use Rattle.units.specs.Heads.{name, calls, openings, sorts}
use Rattle.units.specs.declared.call.Call.{Call}
use Rattle.units.specs.declared.call.Call.TheVariants as call
use Rattle.units.specs.declared.call.Opening.{Opening}
use Rattle.units.specs.declared.call.Parts.{Parts}
use Rattle.units.specs.declared.call.Value as given
use Rattle.units.specs.declared.head.Head.{Head}
use Rattle.units.specs.declared.head.Head.TheVariants as head
use Rattle.units.specs.declared.head.Sort.{Sort}
use Rattle.units.specs.declared.head.Sort.TheVariants.{Number, List as Listed}

-- an argument by what it says
pub data Value : Type 0 where
  one : ℕ → Value
  many : List ℕ → Value

-- what a line asks for: its head and the values of its arguments
pub record Asked : Type 0 where
  pub head : List ℕ
  pub values : List Value

-- a head with the values of its arguments
pub record Said : Type 0 where
  pub head : Head
  pub values : List Value

abbrev pub says : Head → List Value → Said
says h vs = record { head = h; values = vs }

-- what a call says
abbrev pub said : Call → Said
said (call.File t a b x) = says head.File (one t ∷ one a ∷ one b ∷ one x ∷ [])
said (call.Declare g a b x) = says head.Declare (one g ∷ one a ∷ one b ∷ one x ∷ [])
said (call.Issue t) = says head.Issue (one t ∷ [])
said (call.Revise t k n v) = says head.Revise (one t ∷ one k ∷ one n ∷ many v.now ∷ [])
said (call.Close t) = says head.Close (one t ∷ [])
said (call.Read g a b x) = says head.Read (one g ∷ one a ∷ one b ∷ one x ∷ [])
said (call.Settle t) = says head.Settle (one t ∷ [])
said (call.Correct g b x) = says head.Correct (one g ∷ one b ∷ one x ∷ [])
said (call.Pay t x) = says head.Pay (one t ∷ one x ∷ [])
said (call.Draw t x) = says head.Draw (one t ∷ one x ∷ [])

-- the opening of a book: three lists
abbrev pub opening_said : Opening → Said
opening_said o = says head.Open (many o.kinds.now ∷ many o.counts.now ∷ many o.installed.now ∷ [])

abbrev pub spoken : Said → Asked
spoken s = record { head = name s.head; values = s.values }

abbrev pub asked : Call → Asked
asked c = spoken (said c)

abbrev pub opens : Opening → Asked
opens o = spoken (opening_said o)

-- an argument that is handed over

abbrev pub value_of : given.Value → Value
value_of (given.TheVariants.Number n) = one n
value_of (given.TheVariants.List ns) = many ns.now

-- the number that it is, or 0, and the list that it is, or none
abbrev pub number_in : Value → ℕ
number_in (one n) = n
number_in (many ns) = 0

abbrev pub list_in : Value → List ℕ
list_in (one n) = []
list_in (many ns) = ns

abbrev pub as_sort : Sort → Value → Value
as_sort Number v = one (number_in v)
as_sort Listed v = many (list_in v)

-- the values from the i-th on, as these sorts
abbrev pub fitted : List Sort → List Value → ℕ → List Value
fitted [] vs i = []
fitted (s ∷ ss) vs i = as_sort s (slice_index_or vs i (one 0)) ∷ fitted ss vs (i + 1)

-- what a head says with these values
abbrev pub with_values : Head → List Value → Said
with_values h vs = says h (fitted (sorts h) vs 0)

-- the call that a head makes of these values: none exactly where the head opens a book
abbrev pub IsCallOf : Head → List Value → Option Call → Type 0
IsCallOf h vs None = openings h ≡ true
IsCallOf h vs (Some c) = (calls h ≡ true) × (said c ≡ with_values h vs)

-- the first n of these values, and 0 behind them where they are fewer
abbrev pub padded : ℕ → List Value → List Value
padded zero vs = []
padded (suc n) [] = one 0 ∷ padded n []
padded (suc n) (v ∷ vs) = v ∷ padded n vs

-- what parts say: their head, and as many of their values as it takes
abbrev pub parts_said : Parts → Said
parts_said p = says p.head (map value_of (take (length (sorts p.head)) p.values))
