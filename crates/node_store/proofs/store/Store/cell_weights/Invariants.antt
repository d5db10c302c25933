use Rattle.std.proofs.Common.{◌≡◌, ◌+◌, drop}
use Rattle.node_store.specs.Nodes.{CellsBelow}
use Rattle.node_store.specs.Sums as spec
use Rattle.node_store.specs.Paged.{states}
use Rattle.node_store.proofs.store.Store.cell_weights.Given as goal

abbrev pub invariant-loop-cell : goal.invariant-loop-cell
invariant-loop-cell l = let rest = drop l.cell-index l.cells in record {
  below : CellsBelow (states l.self) rest;
  total : l.total + spec.cell_weights (states l.self) rest ≡ spec.cell_weights (states l.self) l.cells;
}
