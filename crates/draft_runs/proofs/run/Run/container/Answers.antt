use Rattle.node_store.specs.Paged.{states}
use Rattle.std.proofs.Common.{◌∙◌, sym}
use Rattle.draft_core.specs.Seen.{heap}
use Rattle.draft_runs.proofs.Asked.{container_some}
use Rattle.draft_runs.proofs.run.Run.container.Goals as goal

pub returns-clause-container : goal.returns-clause-container
returns-clause-container c =
    let s = c.args.self.now in
    container_some (heap (states s.store) s.scope) c.args.v.now c.kind_of.result (sym (c.owns.ensures (states s.store)) ∙ c.if-not-owns.false) c.requires.owned c.kind_of.ensures
