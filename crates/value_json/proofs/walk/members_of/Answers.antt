use Rattle.std.proofs.Common.{ap, map}
use Rattle.value_json.specs.Ranks.{of_marks}
use Rattle.values.specs.Seen.{of_member}
use Rattle.value_json.proofs.Steps.{marks_sorted, moved_sorted}
use Rattle.value_json.proofs.walk.members_of.Goals as goal

pub returns-clause-sorted : goal.returns-clause-sorted
returns-clause-sorted c =
    moved_sorted (map of_member c.loop-key.members.items) (of_marks c.loop-key.key-iterator) (of_marks c.args.found.entries) c.loop-key.invariant (ap of_marks c.in-None.ensures.steps.0) (marks_sorted c.args.found.entries c.len.ensures.ordered)
