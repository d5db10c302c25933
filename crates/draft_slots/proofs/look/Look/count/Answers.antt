use Rattle.node_store.specs.Paged.{states}
use Rattle.std.proofs.Common.{◌∙◌, sym, arith}
use Rattle.numbered.specs.Store.{tree_at}
use Rattle.draft_slots.proofs.LookFacts.{count_node, few_cells}
use Rattle.draft_slots.proofs.look.Look.count.Goals as goal

pub returns-in-Node-clause-value : goal.returns-in-Node-clause-value
returns-in-Node-clause-value c = rw c.in-Node.is (c.count.ensures ∙ sym (count_node c.in-Node.field-1 (tree_at (states c.args.store.now) c.in-Node.id)))

pub returns-in-Node-clause-small : goal.returns-in-Node-clause-small
returns-in-Node-clause-small c =
    let look = rw c.in-Node.is at c.requires in
    let few = few_cells (states c.args.store.now) c.in-Node.id look.0 look.1 in
    omega (arith, few, c.count.ensures)
