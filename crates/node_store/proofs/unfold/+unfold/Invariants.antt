use Rattle.std.proofs.Common.{◌≡◌, ◌+◌, ◌-◌, ◌*◌, ◌++◌, map, drop}
use Rattle.value_model.specs.Plain.{values}
use Rattle.values.specs.Seen.{of_field, of_entry}
use Rattle.numbered.specs.Tree.{plain}
use Rattle.numbered.specs.Store.{tree_at}
use Rattle.node_store.specs.Paged.{states, rows_at}
use Rattle.node_store.specs.Unfolds.{shown, row_value, cell_value}
use Rattle.node_store.proofs.unfold.+unfold.Given as goal

abbrev pub decreases-unfold_node : goal.decreases-unfold_node
decreases-unfold_node l = 3 * values (plain (tree_at (states l.store.now) l.id))

abbrev pub decreases-unfold_cell : goal.decreases-unfold_cell
decreases-unfold_cell l = 3 * values (cell_value (states l.store.now) l.cell.now) + 1

abbrev pub decreases-unfold_fields : goal.decreases-unfold_fields
decreases-unfold_fields l = 3 * values (plain (tree_at (states l.store.now) l.id)) - 1

abbrev pub decreases-unfold_entries : goal.decreases-unfold_entries
decreases-unfold_entries l = 3 * values (plain (tree_at (states l.store.now) l.id)) - 1

abbrev pub decreases-unfold_items : goal.decreases-unfold_items
decreases-unfold_items l = 3 * values (plain (tree_at (states l.store.now) l.id)) - 1

abbrev pub invariant-unfold_fields-loop-i : goal.invariant-unfold_fields-loop-i
invariant-unfold_fields-loop-i l = map of_field l.out.items ++ map (shown (states l.store)) (drop l.i (rows_at l.store l.id)) ≡ map (shown (states l.store)) (rows_at l.store l.id)

abbrev pub invariant-unfold_entries-loop-i : goal.invariant-unfold_entries-loop-i
invariant-unfold_entries-loop-i l = map of_entry l.out.items ++ map (shown (states l.store)) (drop l.i (rows_at l.store l.id)) ≡ map (shown (states l.store)) (rows_at l.store l.id)

abbrev pub invariant-unfold_items-loop-i : goal.invariant-unfold_items-loop-i
invariant-unfold_items-loop-i l = l.out.items ++ map (row_value (states l.store)) (drop l.i (rows_at l.store l.id)) ≡ map (row_value (states l.store)) (rows_at l.store l.id)
