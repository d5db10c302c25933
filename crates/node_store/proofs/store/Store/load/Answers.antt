use Rattle.std.proofs.Common.{◌∙◌, ap, sym, subst}
use Rattle.numbered.specs.Tree.{Tree, plain}
use Rattle.numbered.proofs.Laws.{plain_numbered}
use Rattle.node_store.proofs.Grown.{longer_cut}
use Rattle.page_tables.specs.declared.cell.Cell.{Cell}
use Rattle.page_tables.specs.declared.cell.Cell.TheVariants as cell
use Rattle.node_store.specs.Loads.{IsLast}
use Rattle.node_store.specs.Nodes.{cell_tree}
use Rattle.node_store.specs.Paged.{states}
use Rattle.node_store.proofs.store.Store.load.Goals as goal

pub returns-in-Ok-clause-ok : goal.returns-in-Ok-clause-ok
returns-in-Ok-clause-ok c =
    let last : IsLast (states c.load_cell.new.store) (cell.Node c.number_of.result) = subst (IsLast (states c.load_cell.new.store)) c.number_of.ensures c.in-Ok.ensures.done.last in
    (last, c.in-Ok.ensures.done.store)

pub returns-in-Ok-clause-value : goal.returns-in-Ok-clause-value
returns-in-Ok-clause-value c =
    ap (λ (d : Cell). plain (cell_tree (states c.load_cell.new.store) d)) (sym c.number_of.ensures)
    ∙ ap (λ (t : Tree). plain t) c.in-Ok.ensures.done.same
    ∙ plain_numbered _ c.args.v.now

pub returns-in-Err-clause-stands : goal.returns-in-Err-clause-stands
returns-in-Err-clause-stands c =
    c.cut_to.ensures.whole
    ∙ longer_cut c.args.self.now c.load_cell.new.store c.mark-mark.result c.load_cell.ensures.longer c.mark-mark.ensures.nodes c.mark-mark.ensures.pages
