use Rattle.node_store.specs.Paged.{states}
use Rattle.std.proofs.Common.{◌≡◌, ◌++◌}
use Rattle.std.specs.Prelude.{slice_range}
use Rattle.run_heap.specs.Sound.{AllStored}
use Rattle.draft_core.specs.Seen.{heap}
use Rattle.array_ops_spec.specs.Guards.{elements_of}
use Rattle.array_ops.proofs.elements.elements.Given as goal

abbrev pub invariant-loop-i : goal.invariant-loop-i
invariant-loop-i l = record {
  same : l.scope ≡ l.fn.scope;
  values : l.out.items ++ slice_range (elements_of (heap (states l.store) l.fn.scope) l.of) l.i l.to ≡ slice_range (elements_of (heap (states l.store) l.fn.scope) l.of) l.from l.to;
  stored : AllStored (heap (states l.store) l.fn.scope) l.out.items;
}
