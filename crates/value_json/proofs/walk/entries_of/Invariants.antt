use Rattle.std.proofs.Common.{◌≡◌, ◌++◌, map}
use Rattle.value_json.specs.Ranks.{of_pairs}
use Rattle.values.specs.Seen.{of_entry}
use Rattle.value_json.proofs.walk.entries_of.Given as goal

abbrev pub invariant-loop-key : goal.invariant-loop-key
invariant-loop-key l = map of_entry l.entries.items ++ of_pairs l.key-iterator ≡ of_pairs l.fn.found.entries
