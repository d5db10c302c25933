use Rattle.node_store.specs.Paged.{states}
use Rattle.std.proofs.Common.{◌≡◌, ◌∷◌, drop}
use Rattle.numbered.specs.Store.{tree_at}
use Rattle.node_store.specs.Nodes.{CellBelow, cell_tree}
use Rattle.host_machine.specs.Paths.{subtree_at}
use Rattle.host_engine.proofs.places.cell_at.Given as goal

abbrev pub invariant-loop-step : goal.invariant-loop-step
invariant-loop-step l = record {
  tree : subtree_at (drop l.step-index l.rest) (cell_tree (states l.store) l.cell) ≡ subtree_at (l.fn.first ∷ l.rest) (tree_at (states l.store) l.fn.root);
  below : CellBelow (states l.store) l.cell;
}
