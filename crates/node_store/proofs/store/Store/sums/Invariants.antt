use Rattle.std.proofs.Common.{◌≡◌, ◌+◌, ◌++◌, drop}
use Rattle.node_store.specs.Kept.{sums}
use Rattle.node_store.specs.Nodes.{CellsBelow}
use Rattle.node_store.specs.Sums.{cell_containers}
use Rattle.node_store.specs.Paged.{states}
use Rattle.node_store.proofs.store.Store.sums.Given as goal

abbrev pub invariant-loop-cell : goal.invariant-loop-cell
invariant-loop-cell l = let rest = drop l.cell-index l.cells in record {
  below : CellsBelow (states l.self) rest;
  total : l.total + cell_containers (states l.self) rest ≡ cell_containers (states l.self) l.cells;
  out : l.out.items ++ sums (states l.self) l.total rest ≡ sums (states l.self) 0 l.cells;
}
