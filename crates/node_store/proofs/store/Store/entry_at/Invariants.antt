use Rattle.std.proofs.Common.{◌≡◌, ◌<◌, ◌≤◌, ◌+◌, ◌-◌, length}
use Rattle.numbered.specs.Tree.{before, branches_of}
use Rattle.numbered.specs.Store.{tree_at}
use Rattle.node_store.specs.Nodes.{cells_of}
use Rattle.node_store.specs.Paged.{states}
use Rattle.node_store.proofs.store.Store.entry_at.Given as goal

abbrev pub invariant-loop-end : goal.invariant-loop-end
invariant-loop-end l = record {
  in_range : l.i < length (cells_of (tree_at (states l.self) l.id));
  from : before l.i (branches_of (tree_at (states l.self) l.id)) ≤ l.n;
  end : l.end ≡ before (l.i + 1) (branches_of (tree_at (states l.self) l.id));
}

abbrev pub decreases-loop-end : goal.decreases-loop-end
decreases-loop-end l = length (cells_of (tree_at (states l.self) l.id)) - l.i
