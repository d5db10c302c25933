use Rattle.std.proofs.Common.{◌≤◌, ◌∙◌, length, ap, sym, subst, arith}
use Rattle.node_store.specs.declared.held.Held.{Held}
use Rattle.node_store.specs.Kept.{listed}
use Rattle.node_store.specs.Paged.{Paged, states, pages_after}
use Rattle.node_store.proofs.Grown.{many_states, after_through, after_most}
use Rattle.node_store.proofs.store.Store.pages_through.Goals as goal

pub index-requires : goal.index-requires
index-requires c =
    let view = ap (λ (s : Paged). length (states s)) c.self.view_is in
    let many = many_states c.self.inside.pages c.self.inside.nodes.items in
    let some = c.if-len-eq0.false in
    grind (arith, c.requires, view, many, some)

pub returns-else-len-eq0-clause-value : goal.returns-else-len-eq0-clause-value
returns-else-len-eq0-clause-value c =
    let hs = c.self.inside.nodes.items in
    let view = ap (λ (s : Paged). length (states s)) c.self.view_is in
    let many = many_states c.self.inside.pages hs in
    let some = c.if-len-eq0.false in
    ap (λ (h : Held). h.node.after) c.index.ensures
    ∙ sym (after_through hs c.args.len c.index.result.now (grind (arith, some)) (grind (arith, c.requires, view, many)))
    ∙ ap (λ (s : Paged). pages_after 0 s.nodes c.args.len) c.self.view_is

pub returns-else-len-eq0-clause-most : goal.returns-else-len-eq0-clause-most
returns-else-len-eq0-clause-most c =
    let ps = c.self.inside.pages in
    let hs = c.self.inside.nodes.items in
    let view = ap (λ (s : Paged). length (states s)) c.self.view_is in
    let many = many_states ps hs in
    let some = c.if-len-eq0.false in
    let same = ap (λ (h : Held). h.node.after) c.index.ensures ∙ sym (after_through hs c.args.len c.index.result.now (grind (arith, some)) (grind (arith, c.requires, view, many))) in
    let most = after_most (length ps) 0 (listed hs) c.args.len c.self.invariant.named in
    subst (λ (s : Paged). c.index.result.now.node.after ≤ length s.pages) c.self.view_is (omega (arith, same, most))
