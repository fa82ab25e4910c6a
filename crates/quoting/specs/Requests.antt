-- The quote that a request asks for.
use Rattle.quoting.specs.Choices.{charge_by, weighs_by}
use Rattle.quoting.specs.Quotes.{Quoted}
use Rattle.quoting.specs.declared.quotation.Quotation.{Quotation}
use Rattle.quoting.specs.declared.request.Request.{Request}
use Rattle.share.specs.Loads.{loads}
use Rattle.share.specs.Rules.{Rules}
use Rattle.share.specs.declared.generator.Generator.{Generator}
use Rattle.share.specs.declared.load.Load.{Load}
use Rattle.std.specs.Prelude.{ℕ, List, take}

-- the generators that q names
abbrev pub generators_of : Request → List Generator
generators_of q = take q.count q.generators

abbrev pub loads_of : Request → List Load
loads_of q = loads (generators_of q)

-- The quote for what q asks, by its tariff and a key that weighs so.
abbrev pub AnsweredBy : (Load → Load → ℕ) → Request → Quotation → Type 0
AnsweredBy weighs q r =
    let rules : Rules = record { charge = charge_by q.tariff; weighs = weighs } in
    Quoted rules q.schedule (generators_of q) r

-- The same, by the key that it names.
abbrev pub Answered : Request → Quotation → Type 0
Answered q r = AnsweredBy (weighs_by q.key) q r
