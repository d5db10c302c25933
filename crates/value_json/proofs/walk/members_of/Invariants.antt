use Rattle.std.proofs.Common.{◌≡◌, ◌++◌, map}
use Rattle.value_json.specs.Ranks.{of_marks}
use Rattle.values.specs.Seen.{of_member}
use Rattle.value_json.proofs.walk.members_of.Given as goal

abbrev pub invariant-loop-key : goal.invariant-loop-key
invariant-loop-key l = map of_member l.members.items ++ of_marks l.key-iterator ≡ of_marks l.fn.found.entries
