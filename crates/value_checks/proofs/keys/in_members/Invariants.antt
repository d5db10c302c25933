use Rattle.std.proofs.Common.{◌≡◌, ◌||◌, drop}
use Rattle.value_model.specs.Limits.{any_long_key}
use Rattle.values.specs.Seen.{of_members}
use Rattle.value_checks.proofs.keys.in_members.Given as goal

abbrev pub invariant-loop-k : goal.invariant-loop-k
invariant-loop-k l = (l.long || any_long_key (of_members (drop l.k-index l.members))) ≡ any_long_key (of_members l.members)
