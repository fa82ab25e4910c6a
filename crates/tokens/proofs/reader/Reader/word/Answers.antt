use Rattle.std.proofs.Common.{◌∷◌, sym, refl, rules}
use Rattle.tokens.specs.Pieces.{Headed, NoHead}
use Rattle.tokens.proofs.Pieces.{ends_of, first_word, mapped_ok, mapped_err, exit_is}
use Rattle.tokens.proofs.reader.Reader.word.Goals as goal

pub invariant_of-self : goal.invariant_of-self
invariant_of-self c =
    let h = mapped_ok (λ p. Headed c.args.self.now.line.now p.0.now p.1.now) (λ left. NoHead c.args.self.now.line.now left.now) _ _ c.in_ok-letters.was c.map_err.ensures.cases c.word.ensures in
    let p = ends_of (40 ∷ c.in_ok-letters.letters.now) c.in_ok-letters.after.now c.args.self.now.line.now (sym h.parts) in record { short = p.0; ends = p.1 }

pub returns : goal.returns
returns c =
    let h = mapped_ok (λ p. Headed c.args.self.now.line.now p.0.now p.1.now) (λ left. NoHead c.args.self.now.line.now left.now) _ _ c.in_ok-letters.was c.map_err.ensures.cases c.word.ensures in
    record { line = refl; first = first_word _ _ _ h }

pub returns-in_err-letters : goal.returns-in_err-letters
returns-in_err-letters c =
    let h = mapped_err (λ p. Headed c.args.self.now.line.now p.0.now p.1.now) (λ left. NoHead c.args.self.now.line.now left.now) _ _ c.in_err-letters.was c.map_err.ensures.cases c.word.ensures in
    record { line = refl; first = rw (exit_is c.from_residual.ensures.1) (refl, h.0.now, search rules, h.2.1) }
