use Rattle.node_store.specs.Paged.{states}
use Rattle.std.proofs.Common.{◌∙◌, sym}
use Rattle.draft_core.specs.Seen.{heap}
use Rattle.draft_runs.proofs.Asked.{stored_is}
use Rattle.draft_runs.proofs.run.Run.is_stored.Goals as goal

pub returns-in_default : goal.returns-in_default
returns-in_default c =
    let s = c.args.self.now in
    λ e. stored_is (heap (states s.store) s.scope) c.args.v.now c.in_default.not-Undefined (sym (c.owns.ensures (states s.store)) ∙ e) c.requires
