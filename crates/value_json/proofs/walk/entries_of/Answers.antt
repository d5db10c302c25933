use Rattle.std.proofs.Common.{ap, map}
use Rattle.value_json.specs.Ranks.{of_pairs}
use Rattle.values.specs.Seen.{of_entry}
use Rattle.value_json.proofs.Steps.{pairs_sorted, moved_sorted}
use Rattle.value_json.proofs.walk.entries_of.Goals as goal

pub returns-clause-sorted : goal.returns-clause-sorted
returns-clause-sorted c =
    moved_sorted (map of_entry c.loop-key.entries.items) (of_pairs c.loop-key.key-iterator) (of_pairs c.args.found.entries) c.loop-key.invariant (ap of_pairs c.in-None.ensures.steps.0) (pairs_sorted c.args.found.entries c.len.ensures.ordered)
