-- How long a page must be at least, in bytes.
use Rattle.std.specs.Prelude.{◌≡◌}
use Rattle.spell.specs.declared.answers.TheConstants.{ANSWER_PAGE}
use Rattle.spell.specs.declared.calls.TheConstants.{LINE_PAGE}
use Rattle.spell.specs.declared.statement.TheConstants.{STATEMENT_PAGE}

pub record LeastPages : Type 0 where
  pub answer : ANSWER_PAGE ≡ 64
  pub line : LINE_PAGE ≡ 1024
  pub statement : STATEMENT_PAGE ≡ 4096
