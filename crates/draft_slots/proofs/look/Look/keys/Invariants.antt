use Rattle.node_store.specs.Paged.{states}
use Rattle.std.proofs.Common.{◌≡◌, ◌++◌, drop}
use Rattle.run_heap.specs.Operations.{listed, keys_of, rows_of}
use Rattle.draft_slots.specs.Looks.{looked}
use Rattle.draft_slots.proofs.look.Look.keys.Given as goal

abbrev pub invariant-loop-i : goal.invariant-loop-i
invariant-loop-i l = l.out.items ++ drop l.i (listed (keys_of (rows_of (looked (states l.store) l.self)))) ≡ listed (keys_of (rows_of (looked (states l.store) l.self)))
