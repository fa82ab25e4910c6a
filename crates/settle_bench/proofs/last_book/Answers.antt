-- One book more over pages that hold the same numbers.
use Rattle.book.specs.States.{state}
use Rattle.posting.specs.Sheets.{Sheet}
use Rattle.settle_bench.proofs.last_book.Goals as goal
use Rattle.settle_bench.specs.Full.{Leaves}
use Rattle.std.proofs.Common.{IfOk, IfSome, None, Option, Some, subst}
use Rattle.std.specs.Option.{ok_or}

pub loop-preserved : goal.loop-preserved
loop-preserved c =
    let left = subst (λ (s : Sheet). Leaves c.args.settle s (state c.in_ok-one_book.field-0 c.one_book.new.pages)) c.loop.invariant.0 c.in_ok-one_book.ensures in
    (left.full.sheet, left.full.accounts, left)

-- what holds of a value that may be missing holds where it is there
kept : {X E : Type 0} (P : X → Type 0) (o : Option X) (e : E) → IfSome o P → IfOk (ok_or o e) P
kept P None e h = h
kept P (Some x) e h = h

pub returns : goal.returns
returns c = rw c.ok_or.ensures.value (kept _ c.loop.last _ c.loop.invariant.2)
