use Rattle.node_store.specs.Paged.{states}
use Rattle.std.proofs.Common.{sym, subst}
use Rattle.run_heap.specs.Sound.{AllStored}
use Rattle.draft_core.specs.Seen.{heap}
use Rattle.draft_runs.proofs.Asked.{stored_more}
use Rattle.draft_runs.proofs.run.Run.stored.Goals as goal

pub loop-operand-preserved : goal.loop-operand-preserved
loop-operand-preserved c =
    let h = heap (states c.args.self.now.store) c.args.self.now.scope in
    subst (AllStored h) (sym c.in_ok-push.ensures.items) (stored_more h c.loop-operand.out.items c.in_ok-v.v c.loop-operand.invariant (c.is_stored.ensures c.if-not-is_stored.false))
