use Rattle.node_store.specs.Paged.{states}
use Rattle.std.proofs.Common.{sym, subst}
use Rattle.run_heap.specs.declared.value.Rv.TheVariants.{Obj}
use Rattle.run_heap.specs.Sound.{AllOwned}
use Rattle.draft_core.proofs.Kept.{root_inside}
use Rattle.draft_core.specs.Seen.{heap}
use Rattle.draft_runs.proofs.Held.{owned_more}
use Rattle.draft_runs.proofs.run.Run.foreign.Goals as goal

pub returns-clause-owned : goal.returns-clause-owned
returns-clause-owned c =
    let s = c.args.self.now in
    let h = heap (states s.store) s.scope in
    let more = owned_more h s.values.items (Obj (record { scope = s.other; slot = 0 })) c.requires.owned (λ e. root_inside (states s.store) s.scope c.requires.stands) in
    subst (AllOwned h) (sym c.in_ok-push.ensures.items) more
