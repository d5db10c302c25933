use Rattle.node_store.specs.Paged.{states}
use Rattle.std.proofs.Common.{◌≡◌, ◌<◌, ◌++◌}
use Rattle.numbered.specs.Store.{IsNumber, tree_at}
use Rattle.numbered.specs.Tree.{containers}
use Rattle.run_heap.specs.Places.{path_to}
use Rattle.draft_core.proofs.reads.path_to.Given as goal

abbrev pub invariant-loop-left : goal.invariant-loop-left
invariant-loop-left l = record {
  number : IsNumber (states l.store) l.id;
  inside : l.left < containers (tree_at (states l.store) l.id);
  path : l.steps.items ++ path_to l.left (tree_at (states l.store) l.id) ≡ path_to l.fn.n (tree_at (states l.store) l.fn.root);
}

abbrev pub decreases-loop-left : goal.decreases-loop-left
decreases-loop-left l = l.left
