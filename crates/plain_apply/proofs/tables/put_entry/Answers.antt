use Rattle.std.proofs.Common.{refl}
use Rattle.value_model.specs.Order.{key_exact}
use Rattle.value_model.specs.Search.{put_found, put_gap}
use Rattle.values.specs.Seen.{of_entry}
use Rattle.values.specs.declared.val.Entry.{Entry}
use Rattle.plain_apply.proofs.tables.put_entry.Goals as goal

pub returns-in-Ok : goal.returns-in-Ok
returns-in-Ok c =
    let place = rw c.deref.ensures.value at c.in-Ok.ensures in
    let new : Entry = record { key = c.args.key; value = c.args.value } in
    put_found of_entry _ c.args.entries.now.items c.in-Ok.at new new place.past place.in_range (place.same new) (key_exact _ _ (place.same new))

pub returns-in_ok-insert-in-Err : goal.returns-in_ok-insert-in-Err
returns-in_ok-insert-in-Err c =
    let place = rw c.deref.ensures.value at c.in-Err.ensures in
    let new : Entry = record { key = c.args.key; value = c.args.value } in
    rw c.in_ok-insert-in-Err.ensures.items (put_gap of_entry _ c.args.entries.now.items c.in-Err.at new new place.past place.in_range (place.above new) refl)
