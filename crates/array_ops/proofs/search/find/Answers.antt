use Rattle.node_store.specs.Paged.{states}
use Rattle.run_heap.specs.Operations.{table_of}
use Rattle.draft_core.specs.Seen.{heap}
use Rattle.array_ops_spec.proofs.Edits.{search_found, search_on}
use Rattle.array_ops.proofs.search.find.Goals as goal

pub returns-then-same_at-clause-index : goal.returns-then-same_at-clause-index
returns-then-same_at-clause-index c = search_found c.args.item.now (table_of (heap (states c.args.store.now) c.args.scope.now) c.args.of.now) c.loop-i.i c.args.len c.same_at.result c.requires.long c.loop-i-test.true c.same_at.ensures c.loop-i.invariant c.if-same_at.true

pub loop-i-preserved : goal.loop-i-preserved
loop-i-preserved c = search_on c.args.item.now (table_of (heap (states c.args.store.now) c.args.scope.now) c.args.of.now) c.loop-i.i c.args.len c.same_at.result c.requires.long c.loop-i-test.true c.same_at.ensures c.loop-i.invariant c.if-same_at.false
