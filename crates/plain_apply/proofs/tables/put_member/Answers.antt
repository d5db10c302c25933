use Rattle.std.proofs.Common.{refl}
use Rattle.value_model.specs.Order.{key_exact}
use Rattle.value_model.specs.Search.{put_found, put_gap}
use Rattle.values.specs.Seen.{of_member}
use Rattle.value_model.specs.declared.key.Key.{Key}
use Rattle.plain_apply.proofs.tables.put_member.Goals as goal

pub returns-in-Ok : goal.returns-in-Ok
returns-in-Ok c =
    let place = rw c.deref.ensures.value at c.in-Ok.ensures in
    let new : Key = c.args.key in
    put_found of_member _ c.args.members.now.items c.in-Ok.at new new place.past place.in_range (place.same new) (key_exact _ _ (place.same new))

pub returns-in_ok-insert-in-Err : goal.returns-in_ok-insert-in-Err
returns-in_ok-insert-in-Err c =
    let place = rw c.deref.ensures.value at c.in-Err.ensures in
    let new : Key = c.args.key in
    rw c.in_ok-insert-in-Err.ensures.items (put_gap of_member _ c.args.members.now.items c.in-Err.at new new place.past place.in_range (place.above new) refl)
