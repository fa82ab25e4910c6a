use Rattle.std.proofs.Common.{ℕ, ◌+◌, not, ap, sym, ◌∙◌, rules}
use borrow.Author.Tests.{tests}
use Rattle.std.specs.Option.{option_map}
use Rattle.std.proofs.lemmas.Iterator.{YieldsList-from_slice}
use Rattle.std.proofs.lemmas.Iterator.Search.{position_from_yields_List}
use Rattle.units.specs.declared.fault.Fault.TheVariants.{BadArgument}
use Rattle.spell.specs.Words.{held_word}
use Rattle.spell.proofs.held.all_held.Goals as goal

pub returns-in-Some : goal.returns-in-Some
returns-in-Some c =
    ap (option_map (λ (n : ℕ). BadArgument (n + 1))) (sym (position_from_yields_List (λ w. not (held_word w)) _ _ c.position.result c.position.ensures.ran (YieldsList-from_slice c.args.words.now cc) (λ x b q k. search (rules, tests))) ∙ c.in-Some.is)

pub returns-in-None : goal.returns-in-None
returns-in-None c =
    ap (option_map (λ (n : ℕ). BadArgument (n + 1))) (sym (position_from_yields_List (λ w. not (held_word w)) _ _ c.position.result c.position.ensures.ran (YieldsList-from_slice c.args.words.now cc) (λ x b q k. search (rules, tests))) ∙ c.in-None.is)
