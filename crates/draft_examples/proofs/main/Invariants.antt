use Rattle.node_store.specs.Paged.{states}
use Rattle.run_heap.specs.Sound.{AllOwned}
use Rattle.draft_core.specs.Seen.{heap, Stands}
use Rattle.draft_examples.proofs.main.Given as goal

abbrev pub invariant-loop-line : goal.invariant-loop-line
invariant-loop-line l = record {
  stands : Stands (states l.run.store) l.run.scope;
  owned : AllOwned (heap (states l.run.store) l.run.scope) l.run.values.items;
}
