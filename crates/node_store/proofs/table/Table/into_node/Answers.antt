use Rattle.std.proofs.Common.{◌∙◌, List, map, ap, sym}
use Rattle.value_model.specs.declared.key.Key.{Key}
use Rattle.page_tables.specs.declared.cell.Cell.{Cell}
use Rattle.node_store.specs.Nodes.{is_node}
use Rattle.node_store.proofs.Tables.{zip_keys, zip_cells}
use Rattle.node_store.proofs.table.Table.into_node.Goals as goal

pub invariant_of-result : goal.invariant_of-result
invariant_of-result c =
    let ks = c.from_vec-keys.ensures ∙ sym (zip_keys c.self.inside.keys.items c.self.inside.cells.items c.self.invariant) ∙ ap (λ (rs : List (Key × Cell)). map (λ r. r.0) rs) c.self.view_is in
    let cs = c.from_vec-cells.ensures ∙ sym (zip_cells c.self.inside.keys.items c.self.inside.cells.items c.self.invariant) ∙ ap (λ (rs : List (Key × Cell)). map (λ r. r.1) rs) c.self.view_is in
    record { fits = (λ i. is_node c.args.kind (ks i) (cs i)) ∙ c.requires }

pub returns-clause-keys : goal.returns-clause-keys
returns-clause-keys c = c.from_vec-keys.ensures ∙ sym (zip_keys c.self.inside.keys.items c.self.inside.cells.items c.self.invariant) ∙ ap (λ (rs : List (Key × Cell)). map (λ r. r.0) rs) c.self.view_is

pub returns-clause-cells : goal.returns-clause-cells
returns-clause-cells c = c.from_vec-cells.ensures ∙ sym (zip_cells c.self.inside.keys.items c.self.inside.cells.items c.self.invariant) ∙ ap (λ (rs : List (Key × Cell)). map (λ r. r.1) rs) c.self.view_is
