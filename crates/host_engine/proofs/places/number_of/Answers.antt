use Rattle.node_store.specs.Paged.{states}
use Rattle.std.proofs.Common.{◌∙◌, sym, ap, ℕ, Some}
use Rattle.node_store.specs.Nodes.{cell_tree}
use Rattle.page_tables.specs.declared.cell.Cell.{Cell}
use Rattle.host_machine.specs.Machine.{number_if}
use Rattle.host_engine.proofs.PlaceLaws.{node_number}
use Rattle.host_engine.proofs.places.number_of.Goals as goal

pub returns-in-Node : goal.returns-in-Node
returns-in-Node c =
    let ts = (states c.args.store.now) in
    let number = rw c.in-Node.is at c.requires.below in
    ap (λ (n : ℕ). Some n) c.get.ensures.value ∙ sym (node_number ts c.in-Node.id c.requires.store number) ∙ ap (λ (x : Cell). number_if (cell_tree ts x)) (sym c.in-Node.is)
