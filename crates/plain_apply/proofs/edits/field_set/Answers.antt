use Rattle.std.proofs.Common.{map}
use Rattle.value_model.proofs.Tables.{put_ascends}
use Rattle.value_model.specs.declared.key.Key.TheVariants as key
use Rattle.values.specs.Seen.{of_field}
use Rattle.plain_apply.proofs.edits.field_set.Goals as goal

pub returns-clause-sorted : goal.returns-clause-sorted
returns-clause-sorted c = rw c.in_ok-put_field.ensures (put_ascends (key.Text c.in_ok-key.key) c.in_ok-value.value (map of_field c.args.fields.items) c.requires)
