use Rattle.std.proofs.Common.{map}
use Rattle.value_model.proofs.Tables.{put_ascends}
use Rattle.values.specs.Seen.{of_entry}
use Rattle.plain_apply.proofs.edits.entry_set.Goals as goal

pub returns-clause-sorted : goal.returns-clause-sorted
returns-clause-sorted c = rw c.in_ok-put_entry.ensures (put_ascends c.in_ok-key.key c.in_ok-value.value (map of_entry c.args.entries.items) c.requires)
