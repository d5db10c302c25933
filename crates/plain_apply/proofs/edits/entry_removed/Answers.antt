use Rattle.std.proofs.Common.{map}
use Rattle.value_model.proofs.Tables.{without_ascends}
use Rattle.values.specs.Seen.{of_entry}
use Rattle.plain_apply.proofs.edits.entry_removed.Goals as goal

pub returns-clause-sorted : goal.returns-clause-sorted
returns-clause-sorted c = rw c.remove_entry.ensures (without_ascends c.args.key.now (map of_entry c.args.entries.items) c.requires)
