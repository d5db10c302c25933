use Rattle.std.proofs.Common.{sym}
use Rattle.value_model.proofs.Search.{remove_found}
use Rattle.value_model.specs.declared.key.Key.TheVariants as key
use Rattle.values.specs.Seen.{of_field}
use Rattle.plain_apply.proofs.Without.{without_absent}
use Rattle.plain_apply.proofs.tables.remove_field.Goals as goal

pub returns-in-Ok : goal.returns-in-Ok
returns-in-Ok c =
    let place = rw c.deref.ensures.value at c.in-Ok.ensures in
    rw c.remove.ensures.items (remove_found of_field (key.Text c.args.key.now) c.args.fields.now.items c.in-Ok.at c.remove.result place.past place.in_range (place.same c.remove.result) c.requires)

pub returns-in-Err : goal.returns-in-Err
returns-in-Err c =
    let place = rw c.deref.ensures.value at c.in-Err.ensures in
    sym (without_absent of_field (key.Text c.args.key.now) c.args.fields.now.items c.in-Err.field-0 place c.requires)
