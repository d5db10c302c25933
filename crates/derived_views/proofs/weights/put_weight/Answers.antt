use Rattle.std.proofs.Common.{refl}
use Rattle.value_model.specs.Order.{key_exact}
use Rattle.derived_views.proofs.Entries.{put_found, put_gap}
use Rattle.derived_views.specs.declared.weights.Weight.{Weight}
use Rattle.derived_views.proofs.weights.put_weight.Goals as goal

pub returns-in-Ok : goal.returns-in-Ok
returns-in-Ok c =
    let place = rw c.deref.ensures.value at c.in-Ok.ensures in
    let new : Weight = record { key = c.args.key; weight = c.args.weight } in
    put_found _ c.args.entries.now.items c.in-Ok.at new new place.past place.in_range (place.same new) (key_exact _ _ (place.same new))

pub returns-in_ok-insert-in-Err : goal.returns-in_ok-insert-in-Err
returns-in_ok-insert-in-Err c =
    let place = rw c.deref.ensures.value at c.in-Err.ensures in
    let new : Weight = record { key = c.args.key; weight = c.args.weight } in
    rw c.in_ok-insert-in-Err.ensures.items (put_gap _ c.args.entries.now.items c.in-Err.at new new place.past place.in_range (place.above new) refl)
