use Rattle.std.proofs.Common.{◌≡◌, ◌++◌}
use Rattle.std.specs.List.{zip}
use Rattle.std.specs.Vec.Iter.{into_iter_items}
use Rattle.node_store.proofs.entries.keyed_rows.Given as goal

abbrev pub invariant-loop-key : goal.invariant-loop-key
invariant-loop-key l = l.out.items ++ zip (into_iter_items l.key-iterator) (into_iter_items l.cells) ≡ zip l.fn.keys.items l.fn.cells.items
