use Rattle.std.proofs.Common.{sym}
use Rattle.value_checks.proofs.Members.{not_placed}
use Rattle.value_model.proofs.Search.{found_at}
use Rattle.value_model.specs.declared.key.Key.TheVariants as key
use Rattle.values.specs.Seen.{of_field}
use Rattle.derived_views.proofs.weighing.named.Goals as goal

pub returns-in-Ok : goal.returns-in-Ok
returns-in-Ok c =
    let place = c.in-Ok.ensures in
    sym (found_at of_field (key.Text c.args.name.now) c.args.fields.now c.in-Ok.i c.index-fields-i.result place.past place.in_range (place.same c.index-fields-i.result))

pub returns-in-Err : goal.returns-in-Err
returns-in-Err c = sym (not_placed of_field (key.Text c.args.name.now) c.args.fields.now c.in-Err.field-0 c.in-Err.ensures c.requires)
