-- What is answered to the text of a request.
use Rattle.std.specs.Prelude.{ℕ, List}
use Rattle.quoting.specs.Lines as lines
use Rattle.quoting.specs.Requests.{Answered}
use Rattle.quoting.specs.declared.quotation.Quotation.{Quotation}
use Rattle.quoting.specs.declared.request.Request.{Request}

-- The quotation r is that of the request which the text is granted.
abbrev pub Replied : List ℕ → Quotation → Type 0
Replied text r = (q : Request) × lines.Granted text q × Answered q r
