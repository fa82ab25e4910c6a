use Rattle.std.proofs.Common.{rules}
use Rattle.std.proofs.Props.{props}
use Rattle.std.proofs.Math.Logic.{∥∥₁_elim}
use Rattle.lines.proofs.form.Parts.number.Goals as goal

pub value-requires : goal.value-requires
value-requires c = ∥∥₁_elim c.args.self.now.sound (Prim.hlevel props) (λ sound. search rules)
