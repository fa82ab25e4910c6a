use Rattle.std.proofs.Common.{refl, ap, ◌∙◌, rules}
use Rattle.grammar.specs.Machine.{closed, outcome}
use Rattle.tokens.specs.Pieces.{Argued, NoArgument}
use Rattle.tokens.proofs.Pieces.{next_argument, mapped_ok, mapped_err, exit_is}
use Rattle.tokens.proofs.reader.Reader.next.Goals as goal

pub returns-clause-next : goal.returns-clause-next
returns-clause-next c =
    let s = c.args.self.now in
    let bs = c.in-Some.tail.now in
    let h = mapped_ok (λ p. Argued bs p.0 p.1.now) (λ left. NoArgument bs left.now) _ _ c.in_ok-part.was c.map_err.ensures.cases c.argument.ensures in
    (next_argument s.line.now s.rest.now bs _ _ _ c.place_of.ensures s.ends c.in-Some.ensures h).0

pub returns-in_err-part-clause-next : goal.returns-in_err-part-clause-next
returns-in_err-part-clause-next c =
    let bs = c.in-Some.tail.now in
    let h = mapped_err (λ p. Argued bs p.0 p.1.now) (λ left. NoArgument bs left.now) _ _ c.in_err-part.was c.map_err.ensures.cases c.argument.ensures in
    rw (exit_is c.from_residual.ensures.1) (refl, h.0.now, search rules, λ f. ap (outcome (closed f)) c.in-Some.ensures ∙ h.2.1 f)

pub invariant_of-self : goal.invariant_of-self
invariant_of-self c =
    let s = c.args.self.now in
    let bs = c.in-Some.tail.now in
    let h = mapped_ok (λ p. Argued bs p.0 p.1.now) (λ left. NoArgument bs left.now) _ _ c.in_ok-part.was c.map_err.ensures.cases c.argument.ensures in
    let p = next_argument s.line.now s.rest.now bs _ _ _ refl s.ends c.in-Some.ensures h in
    record { short = p.1; ends = p.2 }
