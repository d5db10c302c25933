use Rattle.node_store.specs.Paged.{states}
use Rattle.std.proofs.Common.{ap, ◌∙◌}
use Rattle.std.specs.Prelude.{Option, Some, option_map}
use Rattle.value_model.specs.declared.kind.Kind.{Kind}
use Rattle.run_heap.specs.declared.content.Content.{Content}
use Rattle.draft_slots.proofs.LookFacts.{looked_kind}
use Rattle.draft_core.proofs.scope.Scope.kind_of.Goals as goal

pub returns-in-Some : goal.returns-in-Some
returns-in-Some c =
    ap (λ (k : Kind). let o : Option Kind = Some k in o) c.kind.ensures
    ∙ looked_kind (states c.args.store.now) c.in-Some.look c.in-Some.ensures.1
    ∙ ap (option_map (λ (d : Content). d.kind)) c.in-Some.ensures.0
