use Rattle.std.proofs.Common.{◌≡◌, ◌∙◌, ap, arith, sym}
use Rattle.value_model.specs.Plain.{weight}
use Rattle.guards_views_spec.specs.declared.Weigh.{Weigh}
use Rattle.guards_views_spec.specs.Views as spec
use Rattle.derived_views.proofs.Limits.{within}
use Rattle.derived_views.proofs.weighing.weighs.Goals as goal

pub returns-in-Weight : goal.returns-in-Weight
returns-in-Weight c =
    let v = c.args.v.now in
    let light = (within v c.requires).light in
    let read = c.weight.ensures in
    let same : c.weight.result ≡ weight v = omega (arith, read, light) in
    same ∙ ap (λ (w : Weigh). spec.weighs w v) (sym c.in-Weight.is)
