use Rattle.node_store.specs.Paged.{states}
use Rattle.std.proofs.Common.{◌∙◌, sym, ap, ℕ}
use Rattle.std.specs.Prelude.{Some, Option}
use Rattle.value_model.specs.declared.key.Key.{Key}
use Rattle.numbered.specs.Store.{tree_at}
use Rattle.numbered.specs.Tree.{branches_of, before}
use Rattle.page_tables.specs.declared.cell.Cell.{Cell}
use Rattle.run_heap.specs.declared.value.Rv.{Rv}
use Rattle.run_heap.specs.declared.value.Rv.TheVariants as rv
use Rattle.run_heap.specs.Heap.{after}
use Rattle.draft_slots.proofs.LookFacts.{fits_before}
use Rattle.draft_slots.specs.Nodes.{given_cell, given_node}
use Rattle.draft_slots.proofs.NodesLaws.{value_given}
use Rattle.draft_slots.proofs.nodes.node_value.Goals as goal

pub give-requires : goal.give-requires
give-requires c = rw c.before-in-Node.ensures (fits_before c.args.given (tree_at (states c.args.store.now) c.args.id) c.args.i c.requires.fit)

pub returns-in_ok-copy-in-Prim : goal.returns-in_ok-copy-in-Prim
returns-in_ok-copy-in-Prim c =
    let ts = (states c.args.store.now) in
    let es = branches_of (tree_at ts c.args.id) in
    let g = after c.args.given (before c.args.i es) in
    value_given ts c.args.given c.args.i es c.cell.result.now c.requires.store c.cell.ensures.below c.cell.ensures.child
    ∙ ap (λ (x : Cell). let o : Option Rv = Some (given_cell g x) in o) c.in-Prim.is
    ∙ ap (λ (k : Key). let o : Option Rv = Some (rv.Prim k) in o) (sym c.in_ok-copy-in-Prim.ensures)

pub returns-in-Node : goal.returns-in-Node
returns-in-Node c =
    let ts = (states c.args.store.now) in
    let es = branches_of (tree_at ts c.args.id) in
    let g = after c.args.given (before c.args.i es) in
    value_given ts c.args.given c.args.i es c.cell.result.now c.requires.store c.cell.ensures.below c.cell.ensures.child
    ∙ ap (λ (x : Cell). let o : Option Rv = Some (given_cell g x) in o) c.in-Node.is
    ∙ ap (λ (n : ℕ). let o : Option Rv = Some (given_node (after c.args.given n) c.in-Node.child) in o) (sym c.before-in-Node.ensures)
    ∙ ap (λ (v : Rv). let o : Option Rv = Some v in o) (sym c.give.ensures)
