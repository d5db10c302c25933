use Rattle.std.proofs.Common.{◌≡◌, drop, List}
use Rattle.numbered.specs.Tree.{Tree}
use Rattle.run_heap.specs.Operations as spec
use Rattle.draft_core.specs.Seen.{heap}
use Rattle.array_ops.proofs.guards.any_foreign.Given as goal

abbrev pub invariant-loop-value : goal.invariant-loop-value
invariant-loop-value l = (ts : List Tree) → spec.any_foreign (heap ts l.scope) (drop l.value-index l.values) ≡ spec.any_foreign (heap ts l.scope) l.values
