use Rattle.std.proofs.Common.{◌∙◌, sym, subst, List}
use Rattle.value_model.specs.declared.kind.Kind.TheVariants as kind
use Rattle.node_store.specs.Nodes.{is_node, built, CellsBelow}
use Rattle.page_tables.specs.declared.cell.Cell.{Cell}
use Rattle.host_engine.specs.Drafts.{plain_rows}
use Rattle.host_engine.proofs.FlatLaws.{built_frozen, cells_below, entries_node}
use Rattle.host_engine.proofs.change.node_of.Goals as goal

pub invariant_of-result : goal.invariant_of-result
invariant_of-result c =
    let ks = c.from_vec.ensures ∙ c.in_ok-keys.ensures.keys in
    let cs = c.from_vec-2.ensures ∙ c.in_ok-keys.ensures.cells in
    record { fits = (λ i. is_node kind.Obj (ks i) (cs i)) ∙ entries_node (plain_rows c.args.rows.items) c.requires.sorted c.requires.flat }

pub returns-clause-state : goal.returns-clause-state
returns-clause-state c = λ ts.
    let ks = c.from_vec.ensures ∙ c.in_ok-keys.ensures.keys in
    let cs = c.from_vec-2.ensures ∙ c.in_ok-keys.ensures.cells in
    (λ i. built ts kind.Obj (ks i) (cs i)) ∙ built_frozen ts (plain_rows c.args.rows.items) c.requires.flat

pub returns-clause-below : goal.returns-clause-below
returns-clause-below c = λ ts.
    let cs = c.from_vec-2.ensures ∙ c.in_ok-keys.ensures.cells in
    subst (λ (xs : List Cell). CellsBelow ts xs) (sym cs) (cells_below ts (plain_rows c.args.rows.items))
