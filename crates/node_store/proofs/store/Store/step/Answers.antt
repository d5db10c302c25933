use Rattle.std.proofs.Common.{◌≡◌, arith, ap, ◌∙◌}
use Rattle.std.specs.Prelude.{Some, slice_get}
use Rattle.numbered.specs.Tree.{prim, branches_of, children}
use Rattle.numbered.specs.Store.{tree_at}
use Rattle.numbered.proofs.Laws.{within_child, place_in_child}
use Rattle.page_tables.specs.declared.cell.Cell.{Cell}
use Rattle.node_store.specs.Nodes.{cell_tree}
use Rattle.node_store.specs.Paged.{states}
use Rattle.node_store.proofs.store.Store.step.Goals as goal

pub unreachable-requires : goal.unreachable-requires
unreachable-requires c =
    let es = branches_of (tree_at (states c.args.self.now) c.args.id) in
    let here : slice_get (children es) c.entry_at-i.result ≡ Some (prim c.in-Prim.field-0) = c.cell.ensures.child ∙ ap (λ (d : Cell). Some (cell_tree (states c.args.self.now) d)) c.in-Prim.is in
    let inside = within_child c.entry_at-i.result c.args.n es (prim c.in-Prim.field-0) here c.entry_at-i.ensures.to in
    let from = c.entry_at-i.ensures.from in
    omega (arith, inside, from)

pub returns-clause-inside : goal.returns-clause-inside
returns-clause-inside c =
    let es = branches_of (tree_at (states c.args.self.now) c.args.id) in
    let v = tree_at (states c.args.self.now) c.in-Node.child in
    let here : slice_get (children es) c.entry_at-i.result ≡ Some v = c.cell.ensures.child ∙ ap (λ (d : Cell). Some (cell_tree (states c.args.self.now) d)) c.in-Node.is in
    let inside = within_child c.entry_at-i.result c.args.n es v here c.entry_at-i.ensures.to in
    let from = c.entry_at-i.ensures.from in
    let same = c.before-2.ensures in
    omega (arith, inside, from, same)

pub returns-clause-place : goal.returns-clause-place
returns-clause-place c =
    let es = branches_of (tree_at (states c.args.self.now) c.args.id) in
    let v = tree_at (states c.args.self.now) c.in-Node.child in
    let here : slice_get (children es) c.entry_at-i.result ≡ Some v = c.cell.ensures.child ∙ ap (λ (d : Cell). Some (cell_tree (states c.args.self.now) d)) c.in-Node.is in
    let inside = within_child c.entry_at-i.result c.args.n es v here c.entry_at-i.ensures.to in
    rw c.before-2.ensures (place_in_child c.entry_at-i.result c.args.n es v here c.entry_at-i.ensures.from inside)
