use Rattle.std.proofs.Common.{◌≡◌, ◌++◌, drop, map}
use Rattle.run_heap.specs.Operations.{item}
use Rattle.draft_core.proofs.lists.list_content.Given as goal

abbrev pub invariant-loop-value : goal.invariant-loop-value
invariant-loop-value l = l.entries.items ++ map item (drop l.value-index l.values) ≡ map item l.values
