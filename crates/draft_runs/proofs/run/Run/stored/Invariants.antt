use Rattle.node_store.specs.Paged.{states}
use Rattle.run_heap.specs.Sound.{AllStored}
use Rattle.draft_core.specs.Seen.{heap}
use Rattle.draft_runs.proofs.run.Run.stored.Given as goal

-- the values so far are such
abbrev pub invariant-loop-operand : goal.invariant-loop-operand
invariant-loop-operand l = AllStored (heap (states l.fn.self.store) l.fn.self.scope) l.out.items
