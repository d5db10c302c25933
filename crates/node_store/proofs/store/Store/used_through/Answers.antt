use Rattle.std.proofs.Common.{◌∙◌, length, take, ap, arith}
use Rattle.numbered.specs.Store.{used}
use Rattle.node_store.specs.declared.held.Held.{Held}
use Rattle.node_store.specs.Paged.{Paged, states}
use Rattle.node_store.proofs.Grown.{many_states, through_states}
use Rattle.node_store.proofs.store.Store.used_through.Goals as goal

pub index-requires : goal.index-requires
index-requires c =
    let view = ap (λ (s : Paged). length (states s)) c.self.view_is in
    let many = many_states c.self.inside.pages c.self.inside.nodes.items in
    let some = c.if-len-eq0.false in
    grind (arith, c.requires, view, many, some)

pub returns-else-len-eq0 : goal.returns-else-len-eq0
returns-else-len-eq0 c =
    let ps = c.self.inside.pages in
    let hs = c.self.inside.nodes.items in
    let view = ap (λ (s : Paged). length (states s)) c.self.view_is in
    let many = many_states ps hs in
    let some = c.if-len-eq0.false in
    ap (λ (h : Held). h.total) c.index.ensures
    ∙ through_states ps hs c.args.len c.index.result.now c.self.invariant.sound (grind (arith, some)) (grind (arith, c.requires, view, many))
    ∙ ap (λ (s : Paged). used (take c.args.len (states s))) c.self.view_is
