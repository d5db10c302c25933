use Rattle.std.proofs.Common.{sym}
use Rattle.value_model.specs.declared.key.Key.TheVariants.{Null}
use Rattle.derived_views.proofs.Entries.{remove_found, remove_gap}
use Rattle.derived_views.specs.declared.weights.Weight.{Weight}
use Rattle.derived_views.proofs.weights.remove_weight.Goals as goal

pub returns-in-Ok : goal.returns-in-Ok
returns-in-Ok c =
    let place = rw c.deref.ensures.value at c.in-Ok.ensures in
    rw c.remove.ensures.items (remove_found c.args.key.now c.args.entries.now.items c.in-Ok.at c.remove.result place.past place.in_range (place.same c.remove.result) c.requires)

pub returns-in-Err : goal.returns-in-Err
returns-in-Err c =
    let place = rw c.deref.ensures.value at c.in-Err.ensures in
    let d : Weight = record { key = Null; weight = 0 } in
    remove_gap c.args.key.now c.args.entries.now.items c.in-Err.field-0 d place.past place.in_range (place.above d) c.requires
