use Rattle.node_store.specs.Paged.{states}
use Rattle.std.proofs.Common.{◌∙◌, ap}
use Rattle.std.specs.Prelude.{Option, Some}
use Rattle.value_model.specs.declared.key.Key.{Key}
use Rattle.value_model.specs.Plain.{Plain}
use Rattle.numbered.specs.Store.{tree_at}
use Rattle.host_engine.specs.Drafts.{plain_cell}
use Rattle.host_engine.specs.Kept.{table_at}
use Rattle.host_engine.proofs.FieldLaws.{flat_kind, flat_node_table, integer_at, node_row}
use Rattle.host_engine.proofs.fields.field_at.Goals as goal

pub key-key-requires-clause-keyed : goal.key-key-requires-clause-keyed
key-key-requires-clause-keyed c = flat_kind (tree_at (states c.args.store.now) c.args.root) c.requires.state.flat

pub unreachable-requires : goal.unreachable-requires
unreachable-requires c =
    let t = tree_at (states c.args.store.now) c.args.root in
    let k = c.key-key.result.now in
    let x = c.cell.result.now in
    let yes = integer_at (table_at (states c.args.store.now) c.args.root) c.args.i (k, plain_cell x) (flat_node_table t c.requires.state.flat) (node_row t c.args.i k x c.requires.state.flat c.key-key.ensures c.cell.ensures.value) in
    let no = c.in_default.ensures in
    absurd (cc)

pub returns : goal.returns
returns c =
    let t = tree_at (states c.args.store.now) c.args.root in
    let k = c.key-key.result.now in
    node_row t c.args.i k c.cell.result.now c.requires.state.flat c.key-key.ensures c.cell.ensures.value ∙ ap (λ (v : Plain). let o : Option (Key × Plain) = Some (k, v) in o) c.in-Some.ensures
