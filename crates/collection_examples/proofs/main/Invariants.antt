use Rattle.node_store.specs.Paged.{states}
use Rattle.run_heap.specs.Sound.{AllOwned}
use Rattle.draft_core.specs.Seen.{heap, Stands}
use Rattle.collection_examples.proofs.main.Given as goal

-- the iterator's own facts, and those of the run
abbrev pub invariant-loop-line : goal.invariant-loop-line
invariant-loop-line l = record {
  next : (goal.iterator-loop-line).can_next l.line-iterator;
  finite : (goal.iterator-loop-line).is_finite l.line-iterator;
  stands : Stands (states l.run.store) l.run.scope;
  owned : AllOwned (heap (states l.run.store) l.run.scope) l.run.values.items;
}
