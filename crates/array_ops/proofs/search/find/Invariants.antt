use Rattle.node_store.specs.Paged.{states}
use Rattle.std.proofs.Common.{◌≡◌, ◌+◌, drop}
use Rattle.std.specs.List.{position_or_len}
use Rattle.run_heap.specs.Values.{same}
use Rattle.draft_core.specs.Seen.{heap}
use Rattle.array_ops_spec.specs.Guards.{elements_of}
use Rattle.array_ops.proofs.search.find.Given as goal

abbrev pub invariant-loop-i : goal.invariant-loop-i
invariant-loop-i l = l.i + position_or_len (λ x. same x l.item) (drop l.i (elements_of (heap (states l.store) l.scope) l.of)) ≡ position_or_len (λ x. same x l.item) (elements_of (heap (states l.store) l.scope) l.of)
