use Rattle.node_store.specs.Paged.{states}
use Rattle.std.proofs.Common.{◌∙◌, ◌<◌, ℕ, sym, ap, subst, get_or}
use Rattle.std.specs.Prelude.{Some, Option}
use Rattle.run_heap.specs.declared.value.Rv.{Rv}
use Rattle.numbered.specs.Store.{tree_at}
use Rattle.numbered.specs.Tree.{branches_of}
use Rattle.run_heap.specs.Operations.{Rows}
use Rattle.draft_slots.proofs.LookFacts.{count_node}
use Rattle.draft_slots.proofs.NodesLaws.{value_in, value_given}
use Rattle.draft_slots.proofs.look.Look.peek.Goals as goal

pub cell-requires-clause-in_range : goal.cell-requires-clause-in_range
cell-requires-clause-in_range c =
    let inside = rw c.in-Node.is at c.requires.in_range in
    subst (λ (n : ℕ). c.args.i < n) (count_node c.in-Node.field-1 (tree_at (states c.args.store.now) c.in-Node.id)) inside

pub returns-in-Own : goal.returns-in-Own
returns-in-Own c =
    let inside = rw c.in-Own.is at c.requires.in_range in
    rw c.in-Own.is (value_in c.in-Own.content.now.table c.args.i c.index-as_slice-i.result inside ∙ ap (λ (t : Rows). let o : Option Rv = Some (get_or t c.args.i c.index-as_slice-i.result).1 in o) (sym c.as_slice.ensures))

pub returns-in-Node : goal.returns-in-Node
returns-in-Node c =
    let look = rw c.in-Node.is at c.requires.look in
    rw c.in-Node.is (
    record {
      there = c.cell.ensures.value;
      value = value_given (states c.args.store.now) c.in-Node.field-1 c.args.i (branches_of (tree_at (states c.args.store.now) c.in-Node.id)) c.cell.result.now look.0 c.cell.ensures.below c.cell.ensures.child;
    }
    )
