use Rattle.std.proofs.Common.{map}
use Rattle.value_model.proofs.Tables.{without_ascends}
use Rattle.value_model.specs.declared.key.Key.TheVariants as key
use Rattle.values.specs.Seen.{of_field}
use Rattle.plain_apply.proofs.edits.field_removed.Goals as goal

pub returns-clause-sorted : goal.returns-clause-sorted
returns-clause-sorted c = rw c.remove_field.ensures (without_ascends (key.Text c.args.name.now) (map of_field c.args.fields.items) c.requires)
