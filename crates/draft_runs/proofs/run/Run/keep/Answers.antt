use Rattle.node_store.specs.Paged.{states}
use Rattle.std.proofs.Common.{sym, subst}
use Rattle.std.specs.Prelude.{Result, IfOk}
use Rattle.run_heap.specs.declared.value.Rv.{Rv}
use Rattle.run_heap.specs.declared.fault.DraftFault.{DraftFault}
use Rattle.run_heap.specs.Sound.{Fits, AllOwned}
use Rattle.draft_core.specs.Seen.{heap}
use Rattle.draft_runs.proofs.Held.{owned_more, fits_owned}
use Rattle.draft_runs.proofs.run.Run.keep.Goals as goal

pub returns-in_ok-push-in-Ok-clause-owned : goal.returns-in_ok-push-in-Ok-clause-owned
returns-in_ok-push-in-Ok-clause-owned c =
    let h = heap (states c.args.self.now.store) c.args.self.now.scope in
    let fits : Fits h c.in-Ok.v = subst (λ (r : Result Rv DraftFault). IfOk r (λ v. Fits h v)) c.in-Ok.is c.requires.fits in
    subst (AllOwned h) (sym c.in_ok-push-in-Ok.ensures.items) (owned_more h c.args.self.now.values.items c.in-Ok.v c.requires.owned (fits_owned h c.in-Ok.v fits))
