use Rattle.std.proofs.Common.{◌≡◌, map, drop, length}
use Rattle.run_heap.specs.Operations.{item}
use Rattle.run_heap.specs.Values.{same_tables}
use Rattle.draft_slots.proofs.table.are_items.Given as goal

abbrev pub invariant-loop-i : goal.invariant-loop-i
invariant-loop-i l = record { long : length l.entries ≡ length l.items; rest : same_tables (drop l.i l.entries) (map item (drop l.i l.items)) ≡ same_tables l.entries (map item l.items) }
