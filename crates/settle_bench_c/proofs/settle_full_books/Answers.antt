-- Where the answer is true the books were settled, and reported as the contract says.
use Rattle.std.proofs.Common.{◌≡◌, ◌∙◌, Bool, true, false, Result, Ok, Err, OnOk, IsTrue, sym}
use Rattle.std.specs.Result.{is_ok}
use Rattle.settle_bench_c.proofs.settle_full_books.Goals as goal

answered : {X E : Type 0} (P : Type 0) (r : Result X E) → OnOk r P → is_ok r ≡ true → P
answered P (Ok x) h given = h
answered P (Err e) h given = cc

pub returns : goal.returns
returns c given = answered _ c.settle_full_books.result c.settle_full_books.ensures (sym c.is_ok.ensures.value ∙ given)
