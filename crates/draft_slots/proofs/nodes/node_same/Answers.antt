use Rattle.node_store.specs.Paged.{states}
use Rattle.std.proofs.Common.{◌≡◌, ◌∙◌, sym, ap, ℕ}
use Rattle.std.specs.Prelude.{Some, Option}
use Rattle.numbered.specs.Store.{tree_at}
use Rattle.numbered.specs.Tree.{branches_of, before}
use Rattle.page_tables.specs.declared.cell.Cell.{Cell}
use Rattle.run_heap.specs.declared.value.Rv.{Rv}
use Rattle.run_heap.specs.declared.value.Rv.TheVariants as rv
use Rattle.run_heap.specs.Heap.{after}
use Rattle.run_heap.specs.Operations.{value_at}
use Rattle.run_heap.specs.Values.{same}
use Rattle.draft_slots.proofs.LookFacts.{fits_before}
use Rattle.draft_slots.specs.Nodes.{given_cell, given_node, node_table}
use Rattle.draft_slots.proofs.NodesLaws.{value_given, some_is}
use Rattle.draft_slots.proofs.nodes.node_same.Goals as goal

pub give-requires : goal.give-requires
give-requires c = rw c.before-in-Node.ensures (fits_before c.args.given (tree_at (states c.args.store.now) c.args.id) c.args.i c.requires.fit)

pub returns-in-Prim : goal.returns-in-Prim
returns-in-Prim c =
    let ts = (states c.args.store.now) in
    let t = tree_at ts c.args.id in
    let g = after c.args.given (before c.args.i (branches_of t)) in
    let there = value_given ts c.args.given c.args.i (branches_of t) c.cell.result.now c.requires.store c.cell.ensures.below c.cell.ensures.child ∙ ap (λ (x : Cell). let o : Option Rv = Some (given_cell g x) in o) c.in-Prim.is in
    some_is (value_at c.args.i (node_table c.args.given t)) (rv.Prim c.in-Prim.key) (λ v. c.is_key.result ≡ same v c.args.item.now) there c.is_key.ensures

pub returns-in-Node : goal.returns-in-Node
returns-in-Node c =
    let ts = (states c.args.store.now) in
    let t = tree_at ts c.args.id in
    let g = after c.args.given (before c.args.i (branches_of t)) in
    let there =
    value_given ts c.args.given c.args.i (branches_of t) c.cell.result.now c.requires.store c.cell.ensures.below c.cell.ensures.child
    ∙ ap (λ (x : Cell). let o : Option Rv = Some (given_cell g x) in o) c.in-Node.is
    ∙ ap (λ (n : ℕ). let o : Option Rv = Some (given_node (after c.args.given n) c.in-Node.child) in o) (sym c.before-in-Node.ensures)
    ∙ ap (λ (v : Rv). let o : Option Rv = Some v in o) (sym c.give.ensures) in
    some_is (value_at c.args.i (node_table c.args.given t)) c.give.result (λ v. c.same.result ≡ same v c.args.item.now) there c.same.ensures
