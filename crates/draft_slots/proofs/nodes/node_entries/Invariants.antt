use Rattle.node_store.specs.Paged.{states}
use Rattle.std.proofs.Common.{◌≡◌, ◌++◌, drop}
use Rattle.numbered.specs.Store.{tree_at}
use Rattle.draft_slots.specs.Nodes.{node_table}
use Rattle.draft_slots.proofs.nodes.node_entries.Given as goal

abbrev pub invariant-loop-i : goal.invariant-loop-i
invariant-loop-i l = l.entries.items ++ drop l.i (node_table l.given (tree_at (states l.store) l.id)) ≡ node_table l.given (tree_at (states l.store) l.id)
