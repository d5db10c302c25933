use Rattle.node_store.specs.Paged.{states}
use Rattle.std.proofs.Common.{ap, ◌∙◌, sym}
use Rattle.run_heap.specs.declared.content.Content.{Content}
use Rattle.run_heap.specs.Heap.{shown}
use Rattle.run_heap.proofs.Laws.{shown_content, shown_entry}
use Rattle.run_heap.specs.Operations.{then_read, entry}
use Rattle.run_heap.specs.Sound.{Fits}
use Rattle.draft_slots.specs.Looks.{looked}
use Rattle.draft_core.proofs.Kept.{answered}
use Rattle.draft_core.specs.Seen.{heap}
use Rattle.draft_core.proofs.scope.Scope.get.Goals as goal

pub returns-in-Some-clause-fits : goal.returns-in-Some-clause-fits
returns-in-Some-clause-fits c =
    let h = heap (states c.args.store.now) c.args.self.now in
    let of = c.args.of.now in
    answered c.entry.result (then_read (λ (d : Content). entry c.args.key.now d.kind d.table) (looked (states c.args.store.now) c.in-Some.look)) (Fits h) c.entry.ensures
    (λ v e. shown_entry h c.args.key.now (shown h of) v (shown_content h of c.requires.stands.sound c.requires.owned) (ap (then_read (λ (d : Content). entry c.args.key.now d.kind d.table)) (sym c.in-Some.ensures.0) ∙ e))
