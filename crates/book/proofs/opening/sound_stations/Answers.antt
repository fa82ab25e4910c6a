use Rattle.std.proofs.Common.{ap, sym, arith}
use Rattle.book.proofs.OpeningChecks.{few_generators}
use Rattle.book.proofs.opening.sound_stations.Goals as goal
use Rattle.std.specs.Option.{option_map}
use Rattle.units.specs.declared.fault.Fault.TheVariants.{BadStation}

pub total-requires : goal.total-requires
total-requires c = few_generators c.args.kinds.now c.args.counts.now c.requires.same (sym c.in-None.ensures) c.requires.few

pub returns-in-None : goal.returns-in-None
returns-in-None c =
    let few = few_generators c.args.kinds.now c.args.counts.now c.requires.same (sym c.in-None.ensures) c.requires.few in
    (ap (option_map BadStation) (sym c.in-None.ensures), (c.total.ensures, omega (arith, c.total.ensures, few)))
