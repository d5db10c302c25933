use Rattle.std.proofs.Common.{◌≤◌, length, ap, subst, arith}
use Rattle.numbered.specs.Store.{IsStore}
use Rattle.node_store.specs.Paged.{Paged, states}
use Rattle.node_store.proofs.Grown.{many_states, held_store}
use Rattle.node_store.proofs.Shown.{read_store}
use Rattle.node_store.proofs.store.Store.held.Goals as goal

pub index-requires : goal.index-requires
index-requires c =
    let view = ap (λ (s : Paged). length (states s)) c.self.view_is in
    let many = many_states c.self.inside.pages c.self.inside.nodes.items in
    grind (arith, c.requires, view, many)

pub returns-clause-held : goal.returns-clause-held
returns-clause-held c =
    let ps = c.self.inside.pages in
    let hs = c.self.inside.nodes.items in
    let view = ap (λ (s : Paged). length (states s)) c.self.view_is in
    let many = many_states ps hs in
    let l : c.args.id ≤ length hs = grind (arith, c.requires, view, many) in
    let there = read_store ps hs c.args.id c.index.result.now c.self.invariant.sound c.self.invariant.named c.get.ensures.from_one l in
    rw (← c.self.view_is, c.index.ensures, c.get.ensures.value) there

pub returns-clause-store : goal.returns-clause-store
returns-clause-store c = subst (λ (s : Paged). IsStore (states s)) c.self.view_is (held_store c.self.inside.pages c.self.inside.nodes.items c.self.invariant.sound)
