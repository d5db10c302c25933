use Rattle.std.proofs.Common.{◌≡◌, sym, subst}
use Rattle.numbered.specs.Tree.{child_weight}
use Rattle.numbered.proofs.Laws.{child_at}
use Rattle.page_tables.specs.declared.cell.Cell.{Cell}
use Rattle.page_tables.specs.declared.cell.Cell.TheVariants as cell
use Rattle.node_store.specs.Nodes.{cell_tree, CellBelow}
use Rattle.node_store.specs.Paged.{states}
use Rattle.node_store.proofs.store.Store.own_weight_of.Goals as goal

pub returns-in-Node : goal.returns-in-Node
returns-in-Node c =
    let below : CellBelow (states c.args.self.now) (cell.Node c.in-Node.field-0) = subst (CellBelow (states c.args.self.now)) c.in-Node.is c.requires.below in
    subst (λ (d : Cell). 1 ≡ child_weight (cell_tree (states c.args.self.now) d)) (sym c.in-Node.is) (sym (child_at (states c.args.self.now) c.in-Node.field-0 c.requires.store below))
