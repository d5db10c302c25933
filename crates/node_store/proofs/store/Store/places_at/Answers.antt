use Rattle.std.proofs.Common.{◌≡◌, ◌∙◌, ◌+◌, ℕ, suc, ap, sym, arith}
use Rattle.std.specs.Prelude.{Some, slice_get}
use Rattle.numbered.specs.Tree as tree
use Rattle.numbered.specs.Tree.{Branches, branches_of, children, containers}
use Rattle.numbered.specs.Store.{tree_at}
use Rattle.numbered.proofs.Laws.{before_more}
use Rattle.page_tables.specs.declared.cell.Cell.{Cell}
use Rattle.node_store.specs.Nodes.{cell_tree}
use Rattle.node_store.specs.Paged.{states}
use Rattle.node_store.proofs.store.Store.places_at.Goals as goal

more : (i : ℕ) (es : Branches) (v : tree.Tree) → slice_get (children es) i ≡ Some v → tree.before (i + 1) es ≡ tree.before i es + containers v
more i es v h = let e : i + 1 ≡ suc i = omega arith in ap (λ (k : ℕ). tree.before k es) e ∙ before_more i es v h

pub returns-in-Prim-clause-more : goal.returns-in-Prim-clause-more
returns-in-Prim-clause-more c =
    let us = states c.args.self.now in
    more c.args.i (branches_of (tree_at us c.args.id)) (tree.prim c.in-Prim.field-0) (c.cell.ensures.child ∙ ap (λ (d : Cell). Some (cell_tree us d)) c.in-Prim.is)

pub returns-in-Node-clause-more : goal.returns-in-Node-clause-more
returns-in-Node-clause-more c =
    let us = states c.args.self.now in
    more c.args.i (branches_of (tree_at us c.args.id)) (tree_at us c.in-Node.child) (c.cell.ensures.child ∙ ap (λ (d : Cell). Some (cell_tree us d)) c.in-Node.is)
    ∙ ap (λ (n : ℕ). tree.before c.args.i (branches_of (tree_at us c.args.id)) + n) (sym c.containers.ensures.value)
