use Rattle.std.proofs.Common.{refl}
use Rattle.value_checks.proofs.Members.{not_placed}
use Rattle.value_model.proofs.Search.{found_at}
use Rattle.value_model.specs.declared.key.Key.TheVariants as key_of
use Rattle.values.specs.Seen.{of_field}
use Rattle.values.specs.declared.val.Field.{Field}
use Rattle.value_model.specs.declared.key.Key.TheVariants.{Null}
use Rattle.value_model.specs.Plain.{prim}
use Rattle.std.specs.Prelude.{[]}
use Rattle.shapes.proofs.names.has_field.Goals as goal

pub returns-in-Ok : goal.returns-in-Ok
returns-in-Ok c =
    let place = c.in-Ok.ensures in
    let d : Field = record { key = []; value = prim Null } in
    rw (found_at of_field (key_of.Text c.args.name.now) c.args.fields.now c.in-Ok.field-0 d place.past place.in_range (place.same d)) refl

pub returns-in-Err : goal.returns-in-Err
returns-in-Err c = rw (not_placed of_field (key_of.Text c.args.name.now) c.args.fields.now c.in-Err.field-0 c.in-Err.ensures c.requires) refl
