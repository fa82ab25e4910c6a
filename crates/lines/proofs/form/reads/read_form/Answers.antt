use Rattle.std.proofs.Common.{◌∙◌, arith}
use Rattle.tokens.proofs.Pieces.{exit_is}
use Rattle.lines.proofs.Whole.{first_refused, next_refused, gather, read}
use Rattle.lines.proofs.form.reads.read_form.Goals as goal

pub loop-token-preserved : goal.loop-token-preserved
loop-token-preserved c =
    let more = rw (c.in-Some.is, c.loop-token.invariant.0) at c.in_ok-token.ensures.next in
    (c.next.ensures.line ∙ c.loop-token.invariant.0, omega (arith, more.shorter, c.loop-token.invariant.1), gather c.loop-token.invariant.2 more c.keep.ensures)

pub returns : goal.returns
returns c = read c.args.line.now _ _ (omega arith) c.loop-token.invariant.2 (rw c.in_default.is at c.in_ok-token.ensures.next).1

pub returns-in_err-word : goal.returns-in_err-word
returns-in_err-word c =
    rw (exit_is c.from_residual.ensures.1) (first_refused c.args.line.now _ c.word.new.self.rest.now _ (omega arith) (rw c.new-reader.ensures.line at c.in_err-word.ensures.first))

pub returns-in_err-token : goal.returns-in_err-token
returns-in_err-token c =
    let h = c.loop-token.invariant.2 in
    rw (exit_is c.from_residual-in_err-token.ensures.1) (next_refused c.args.line.now c.loop-token.reader.rest.now c.next.new.self.rest.now _ h.args _ (omega arith) h.reached (rw c.loop-token.invariant.0 at c.in_err-token.ensures.next))
