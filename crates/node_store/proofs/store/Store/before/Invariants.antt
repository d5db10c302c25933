use Rattle.std.proofs.Common.{◌≡◌}
use Rattle.numbered.specs.Tree.{before, branches_of}
use Rattle.numbered.specs.Store.{tree_at}
use Rattle.node_store.specs.Paged.{states}
use Rattle.node_store.proofs.store.Store.before.Given as goal

abbrev pub invariant-loop-k : goal.invariant-loop-k
invariant-loop-k l = l.total ≡ before l.k (branches_of (tree_at (states l.self) l.id))
