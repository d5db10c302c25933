use Rattle.std.proofs.Common.{◌≡◌, ◌∙◌, ℕ, length, ap, sym, subst}
use Rattle.node_store.specs.Paged.{Paged, states, pages_after}
use Rattle.node_store.proofs.Grown.{length_listed, many_states, after_all}
use Rattle.node_store.specs.Kept.{listed}
use Rattle.node_store.proofs.store.Store.mark.Goals as goal

pub returns-clause-value : goal.returns-clause-value
returns-clause-value c = c.len.ensures ∙ c.self.inside.nodes.ok.0 ∙ sym (many_states c.self.inside.pages c.self.inside.nodes.items) ∙ ap (λ (s : Paged). length (states s)) c.self.view_is

pub returns-clause-nodes : goal.returns-clause-nodes
returns-clause-nodes c = c.len.ensures ∙ c.self.inside.nodes.ok.0 ∙ sym (length_listed c.self.inside.nodes.items) ∙ ap (λ (s : Paged). length s.nodes) c.self.view_is

pub returns-clause-pages : goal.returns-clause-pages
returns-clause-pages c =
    let ps = c.self.inside.pages in
    let hs = c.self.inside.nodes.items in
    ap (λ (n : ℕ). pages_after 0 c.args.self.now.nodes n) (c.len.ensures ∙ c.self.inside.nodes.ok.0 ∙ sym (length_listed hs) ∙ ap (λ (s : Paged). length s.nodes) c.self.view_is)
    ∙ subst (λ (s : Paged). pages_after 0 s.nodes (length s.nodes) ≡ length s.pages) c.self.view_is (after_all (length ps) 0 (listed hs) c.self.invariant.named)
