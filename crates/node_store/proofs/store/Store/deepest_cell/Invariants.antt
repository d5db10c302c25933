use Rattle.std.proofs.Common.{◌≡◌, max, drop}
use Rattle.node_store.specs.Nodes.{CellsBelow}
use Rattle.node_store.specs.Sums as spec
use Rattle.node_store.specs.Paged.{states}
use Rattle.node_store.proofs.store.Store.deepest_cell.Given as goal

abbrev pub invariant-loop-cell : goal.invariant-loop-cell
invariant-loop-cell l = let rest = drop l.cell-index l.cells in record {
  below : CellsBelow (states l.self) rest;
  most : max l.most (spec.deepest_cell (states l.self) rest) ≡ spec.deepest_cell (states l.self) l.cells;
}
