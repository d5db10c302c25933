use Rattle.std.proofs.Common.{◌≡◌, ◌<◌, ◌≤◌, ◌-◌, ℕ, length, Less, Greater}
use Rattle.std.specs.Prelude.{Some, slice_get}
use Rattle.value_model.specs.declared.key.Key.{Key}
use Rattle.value_model.specs.Order.{key_cmp}
use Rattle.numbered.specs.Store.{tree_at}
use Rattle.node_store.specs.Nodes.{keys_of, cells_of}
use Rattle.node_store.specs.Paged.{states}
use Rattle.node_store.proofs.store.Store.search.Given as goal

-- the keys before `low` are below, those from `high` on above
abbrev pub invariant-loop-low : goal.invariant-loop-low
invariant-loop-low l = record {
  in_range : l.high ≤ length (cells_of (tree_at (states l.self) l.id));
  below : (j : ℕ) (a : Key) → j < l.low → slice_get (keys_of (tree_at (states l.self) l.id)) j ≡ Some a → key_cmp a l.key ≡ Less;
  above : (j : ℕ) (a : Key) → l.high ≤ j → slice_get (keys_of (tree_at (states l.self) l.id)) j ≡ Some a → key_cmp a l.key ≡ Greater;
}

abbrev pub decreases-loop-low : goal.decreases-loop-low
decreases-loop-low l = l.high - l.low
