use Rattle.std.proofs.Common.{rules}
use Rattle.std.proofs.Props.{props}
use Rattle.std.proofs.Math.Logic.{∥∥₁_elim}
use Rattle.lines.proofs.Listing.{few_pieces, sound_pieces}
use Rattle.lines.proofs.form.Parts.list.Goals as goal

pub values-requires : goal.values-requires
values-requires c = ∥∥₁_elim c.args.self.now.sound (Prim.hlevel props) (λ sound. record { numerals = sound_pieces c.in-Some-List.numbers.now (search rules); few = few_pieces c.in-Some-List.numbers.now (search rules) })
