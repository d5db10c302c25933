use Rattle.std.proofs.Common.{◌≡◌, ◌<◌}
use Rattle.numbered.specs.Tree.{place, containers}
use Rattle.numbered.specs.Store.{IsNumber, tree_at}
use Rattle.node_store.specs.Paged.{states}
use Rattle.node_store.proofs.store.Store.locate.Given as goal

abbrev pub invariant-loop-left : goal.invariant-loop-left
invariant-loop-left l = record {
  number : IsNumber (states l.self) l.id;
  inside : l.left < containers (tree_at (states l.self) l.id);
  place : place l.left (tree_at (states l.self) l.id) ≡ place l.fn.n (tree_at (states l.self) l.fn.root);
}

abbrev pub decreases-loop-left : goal.decreases-loop-left
decreases-loop-left l = l.left
