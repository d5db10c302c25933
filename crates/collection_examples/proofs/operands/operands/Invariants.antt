use Rattle.node_store.specs.Paged.{states}
use Rattle.run_heap.specs.Sound.{AllOwned}
use Rattle.draft_core.specs.Seen.{heap}
use Rattle.collection_examples.proofs.operands.operands.Given as goal

abbrev pub invariant-loop-i : goal.invariant-loop-i
invariant-loop-i l = record {
  owned : AllOwned (heap (states l.run.store) l.run.scope) l.out.items;
}
