use Rattle.std.proofs.Common.{◌∙◌, length, ap, sym, subst, arith}
use Rattle.numbered.specs.Store.{IsStore}
use Rattle.node_store.specs.Paged.{Paged, states}
use Rattle.node_store.proofs.Grown.{many_states, held_store}
use Rattle.node_store.proofs.store.Store.len.Goals as goal

pub returns-clause-value : goal.returns-clause-value
returns-clause-value c = c.len.ensures ∙ c.self.inside.nodes.ok.0 ∙ sym (many_states c.self.inside.pages c.self.inside.nodes.items) ∙ ap (λ (s : Paged). length (states s)) c.self.view_is

pub returns-clause-few : goal.returns-clause-few
returns-clause-few c =
    let few = c.self.invariant.few in
    let many = many_states c.self.inside.pages c.self.inside.nodes.items in
    let view = ap (λ (s : Paged). length (states s)) c.self.view_is in
    omega (arith, few, many, view)

pub returns-clause-store : goal.returns-clause-store
returns-clause-store c = subst (λ (s : Paged). IsStore (states s)) c.self.view_is (held_store c.self.inside.pages c.self.inside.nodes.items c.self.invariant.sound)
