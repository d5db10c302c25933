use Rattle.node_store.specs.Paged.{states}
use Rattle.std.proofs.Common.{◌∙◌, ap}
use Rattle.std.specs.Prelude.{Option, Some}
use Rattle.numbered.specs.Store.{tree_at}
use Rattle.numbered.specs.Tree.{Tree, branches_of}
use Rattle.node_store.specs.Nodes.{cell_tree}
use Rattle.page_tables.specs.declared.cell.Cell.{Cell}
use Rattle.draft_core.proofs.Paths.{no_places}
use Rattle.draft_core.proofs.reads.child.Goals as goal

pub unreachable-requires : goal.unreachable-requires
unreachable-requires c =
    let ts = (states c.args.store.now) in
    no_places (branches_of (tree_at ts c.args.id)) c.args.i c.in-Prim.field-0
    (c.cell.ensures.child ∙ ap (λ (x : Cell). let o : Option Tree = Some (cell_tree ts x) in o) c.in-Prim.is) c.requires.inside
