use Rattle.node_store.specs.Paged.{states}
use Rattle.std.proofs.Common.{map}
use Rattle.run_heap.specs.declared.value.Rv.TheVariants.{Prim}
use Rattle.run_heap.specs.Operations.{keys_of, table_of}
use Rattle.draft_core.specs.Seen.{heap}
use Rattle.draft_map_set.proofs.Facts.{one_more}
use Rattle.draft_map_set.proofs.members.key_list.Goals as goal

pub loop-i-preserved : goal.loop-i-preserved
loop-i-preserved c =
    let ks = keys_of (table_of (heap (states c.args.store.now) c.args.scope.now) c.args.of.now) in
    one_more (map Prim ks) ks c.loop-i.i c.in_ok-copy.field-0 c.key_at.result.now c.loop-i.out.items c.push.new.self.items c.key_at.ensures c.in_ok-copy.ensures c.loop-i.invariant c.in_ok-push.ensures.items
