use Rattle.std.proofs.Common.{◌≡◌, map, ◌++◌, drop}
use Rattle.run_heap.specs.Operations.{item}
use Rattle.draft_slots.proofs.table.copy_items.Given as goal

abbrev pub invariant-loop-value : goal.invariant-loop-value
invariant-loop-value l = l.out.items ++ map item (drop l.value-index l.items) ≡ map item l.items
