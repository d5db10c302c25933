use Rattle.std.proofs.Common.{◌∙◌, ap}
use Rattle.numbered.specs.Store.{used}
use Rattle.node_store.specs.Paged.{Paged, states}
use Rattle.node_store.proofs.Grown.{used_states}
use Rattle.node_store.proofs.store.Store.used.Goals as goal

pub returns-clause-value : goal.returns-clause-value
returns-clause-value c = used_states c.self.inside.pages c.self.inside.nodes.items c.self.inside.used c.self.invariant.used ∙ ap (λ (s : Paged). used (states s)) c.self.view_is
