use Rattle.std.proofs.Common.{◌≡◌, drop}
use Rattle.std.specs.List.{list_any}
use Rattle.run_heap.specs.Operations as spec
use Rattle.array_ops.proofs.guards.any_undefined.Given as goal

abbrev pub invariant-loop-value : goal.invariant-loop-value
invariant-loop-value l = list_any spec.is_undefined (drop l.value-index l.values) ≡ list_any spec.is_undefined l.values
