use Rattle.std.proofs.Common.{eqb, map, length, ap, ◌∙◌, arith, of_calls, rules}
use borrow.Author.Tests.{tests}
use Rattle.std.proofs.lemmas.Iterator.{YieldsList-from_map}
use Rattle.std.proofs.lemmas.Iterator.Consumers.{YieldsList-at}
use Rattle.std.proofs.lemmas.Iterator.Adapters.{serves_from_places}
use Rattle.std.proofs.lemmas.Iterator.Splits.{YieldsList-from_slice_split}
use Rattle.std.proofs.lemmas.List.{length-map}
use Rattle.std.specs.List.{slice_split}
use Rattle.grammar.specs.Calls.{read_on}
use Rattle.grammar.specs.declared.line.TheConstants.{MOST_NUMBERS}
use Rattle.lines.proofs.Listing.{pieces_are, numeral_at}
use Rattle.lines.proofs.Room.{all_added}
use Rattle.lines.proofs.values.values.Goals as goal

pub extend-added-requires : goal.extend-added-requires
extend-added-requires c = (
  omega arith,
  λ it is. rw is (
    (
      search of_calls,
      serves_from_places (YieldsList-at c.map.ensures.source (YieldsList-from_slice_split _ (λ b. eqb b 32) c.args.numbers.now c.split.ensures.rest c.split.ensures.done c.split.ensures.closure (λ x b q k. search (rules, tests)))) (λ x q r. search rules) (λ x k lt e. let digits = numeral_at c.args.numbers.now x.now k c.requires.numerals lt e in search rules),
    ),
    tt,
  ),
)

pub returns : goal.returns
returns c =
    c.as_slice.ensures.value ∙ (
    let h = c.extend-added.ensures in
    let same = pieces_are c.args.numbers.now in
    all_added _ c.extend-added.new.self.items MOST_NUMBERS c.extend-added.result h.ran h.full h.one_more
    (YieldsList-from_map _ (read_on 0) (YieldsList-at c.map.ensures.source (YieldsList-from_slice_split _ (λ b. eqb b 32) c.args.numbers.now c.split.ensures.rest c.split.ensures.done c.split.ensures.closure (λ x b q k. search (rules, tests)))) c.map.ensures.closure (λ x r q k. search rules))
    (ap (λ v. v.items) c.insert-values.ensures.value ∙ c.new.ensures)
    (omega (arith, length-map (slice_split (λ b. eqb b 32) c.args.numbers.now) (read_on 0), ap length same, c.requires.few))
    ∙ ap (map (read_on 0)) same)
