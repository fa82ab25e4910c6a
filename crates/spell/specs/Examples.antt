-- Worked lines.
use Rattle.std.specs.Prelude.{◌≡◌, [], ◌∷◌, ◌++◌, pos, negsuc, Ok, Err, codes}
use Rattle.units.specs.declared.fault.Fault.TheVariants.{DrawAboveDue}
use Rattle.units.specs.declared.call.Call.TheVariants.{Pay}
use Rattle.grammar.specs.Calls.{form}
use Rattle.units.specs.Calls.{Asked, one, many, asked}
use Rattle.grammar.specs.Grammar.{spelled}
use Rattle.spell.specs.Answers.{answer_text}
use Rattle.spell.specs.Statements.{statement_text}
use Rattle.spell.specs.declared.figures.StationLine.{StationLine}
use Rattle.spell.specs.declared.figures.GeneratorLine.{GeneratorLine}

abbrev revision : Asked
revision = record { head = codes "revise"; values = one 0 ∷ one 1 ∷ one 91 ∷ many (1000 ∷ 0 ∷ []) ∷ [] }

abbrev station : StationLine
station = record { station = 0; code = 10; charges = pos 1250; due = negsuc 2749; cash = 4000 }

abbrev generator : GeneratorLine
generator = record { generator = 1; energy = pos 500; money = negsuc 0 }

pub record Examples : Type 0 where
  pub accepted : answer_text (Ok tt) ≡ codes "(ok)" ++ 10 ∷ []
  pub refused : answer_text (Err (DrawAboveDue 0 2750)) ≡ codes "(no 3 21 0 2750)" ++ 10 ∷ []
  pub payment : spelled (form (asked (Pay 0 1000000000000))) ≡ codes "(pay 0 1000000000000)"
  pub revised : spelled (form revision) ≡ codes "(revise 0 1 91 (1000 0))"
  pub stated : statement_text station (generator ∷ []) ≡ codes "(station 0 10 1250 -2750 4000)" ++ 10 ∷ (codes "(generator 1 500 -1)" ++ 10 ∷ [])
