use Rattle.std.proofs.Common.{◌∙◌, ◌<◌, ◌≤◌, ◌∷◌, [], length, map, ap, sym, subst, arith}
use Rattle.std.proofs.lemmas.List.{map-append}
use Rattle.value_model.specs.declared.key.Key.{Key}
use Rattle.value_model.specs.declared.key.Key.TheVariants as key
use Rattle.value_model.specs.declared.kind.Kind.TheVariants as kind
use Rattle.value_model.specs.Plain.{values}
use Rattle.values.specs.declared.val.Field.{Field}
use Rattle.values.specs.declared.val.Entry.{Entry}
use Rattle.values.specs.Seen.{of_field, of_entry}
use Rattle.numbered.specs.Store.{tree_at}
use Rattle.page_tables.specs.declared.cell.Cell.{Cell}
use Rattle.node_store.specs.Nodes.{CellBelow}
use Rattle.node_store.specs.Paged.{states, rows_at}
use Rattle.node_store.specs.Unfolds.{shown, row_value, cell_value, IsText}
use Rattle.node_store.proofs.Unfolds.{unfolded, obj_value, obj_order, map_value, map_order, list_value, text_at, fewer_at, turn, ended}
use Rattle.node_store.proofs.unfold.+unfold.Goals as goal

-- ---- unfold_fields
pub unfold_fields-text_in-requires : goal.unfold_fields-text_in-requires
unfold_fields-text_in-requires w c =
    let us = states c.args.store.now in
    let rs = rows_at c.args.store.now c.args.id in
    let t = tree_at us c.args.id in
    let size = c.size-count.ensures in
    let many = size.rows in
    let u = unfolded us c.args.id kind.Obj rs size.store size.number c.requires.object size.branches_are in
    let d = c.row-row.result.now in
    let turns = c.loop-i-test.true in
    let l : c.loop-i.i < length rs = omega (arith, many, turns) in
    let here = c.row-row.ensures.value d in
    subst IsText (sym (c.key.ensures ∙ ap (λ (r : Key × Cell). r.0) here)) (text_at us t rs c.loop-i.i d u l)

pub unfold_fields-unfold_cell-requires : goal.unfold_fields-unfold_cell-requires
unfold_fields-unfold_cell-requires w c =
    let us = states c.args.store.now in
    let rs = rows_at c.args.store.now c.args.id in
    let t = tree_at us c.args.id in
    let size = c.size-count.ensures in
    let many = size.rows in
    let u = unfolded us c.args.id kind.Obj rs size.store size.number c.requires.object size.branches_are in
    let d = c.row-row.result.now in
    let turns = c.loop-i-test.true in
    let l : c.loop-i.i < length rs = omega (arith, many, turns) in
    let here = c.row-row.ensures.value d in
    let fewer = fewer_at us t kind.Obj rs c.loop-i.i d u l in
    let same = ap (λ (x : Cell). values (cell_value us x)) (c.cell.ensures ∙ ap (λ (r : Key × Cell). r.1) here) in
    (omega (arith, fewer, same), subst (CellBelow us) (sym c.cell.ensures) c.row-row.ensures.row.below)

pub unfold_fields-loop-i-preserved : goal.unfold_fields-loop-i-preserved
unfold_fields-loop-i-preserved w c =
    let us = states c.args.store.now in
    let rs = rows_at c.args.store.now c.args.id in
    let t = tree_at us c.args.id in
    let size = c.size-count.ensures in
    let many = size.rows in
    let u = unfolded us c.args.id kind.Obj rs size.store size.number c.requires.object size.branches_are in
    let d = c.row-row.result.now in
    let turns = c.loop-i-test.true in
    let l : c.loop-i.i < length rs = omega (arith, many, turns) in
    let here = c.row-row.ensures.value d in
    let value = c.in_ok-value.ensures ∙ ap (cell_value us) (c.cell.ensures ∙ ap (λ (r : Key × Cell). r.1) here) in
    let name = ap key.Text c.in_ok-key.ensures ∙ sym c.text_in.ensures ∙ c.key.ensures ∙ ap (λ (r : Key × Cell). r.0) here in
    let f : Field = record { key = c.in_ok-key.key; value = c.in_ok-value.value } in
    turn (shown us) rs c.loop-i.i d (map of_field c.loop-i.out.items) (map of_field c.push.new.self.items) (of_field f) l c.loop-i.invariant (ap (map of_field) c.in_ok-push.ensures.items ∙ map-append of_field c.loop-i.out.items (f ∷ [])) (λ j. (name j, value j))

pub unfold_fields-returns-clause-sorted : goal.unfold_fields-returns-clause-sorted
unfold_fields-returns-clause-sorted w c =
    let us = states c.args.store.now in
    let rs = rows_at c.args.store.now c.args.id in
    let t = tree_at us c.args.id in
    let size = c.size-count.ensures in
    let many = size.rows in
    let u = unfolded us c.args.id kind.Obj rs size.store size.number c.requires.object size.branches_are in
    let turns = c.loop-i-test.false in
    let l : length rs ≤ c.loop-i.i = omega (arith, many, turns) in
    obj_order us t rs (map of_field c.loop-i.out.items) u (ended (shown us) rs c.loop-i.i (map of_field c.loop-i.out.items) l c.loop-i.invariant)

pub unfold_fields-returns-clause-value : goal.unfold_fields-returns-clause-value
unfold_fields-returns-clause-value w c =
    let us = states c.args.store.now in
    let rs = rows_at c.args.store.now c.args.id in
    let t = tree_at us c.args.id in
    let size = c.size-count.ensures in
    let many = size.rows in
    let u = unfolded us c.args.id kind.Obj rs size.store size.number c.requires.object size.branches_are in
    let turns = c.loop-i-test.false in
    let l : length rs ≤ c.loop-i.i = omega (arith, many, turns) in
    obj_value us t rs (map of_field c.loop-i.out.items) u (ended (shown us) rs c.loop-i.i (map of_field c.loop-i.out.items) l c.loop-i.invariant)

-- ---- unfold_entries
pub unfold_entries-unfold_cell-requires : goal.unfold_entries-unfold_cell-requires
unfold_entries-unfold_cell-requires w c =
    let us = states c.args.store.now in
    let rs = rows_at c.args.store.now c.args.id in
    let t = tree_at us c.args.id in
    let size = c.size-count.ensures in
    let many = size.rows in
    let u = unfolded us c.args.id kind.Map rs size.store size.number c.requires.table size.branches_are in
    let d = c.row-row.result.now in
    let turns = c.loop-i-test.true in
    let l : c.loop-i.i < length rs = omega (arith, many, turns) in
    let here = c.row-row.ensures.value d in
    let fewer = fewer_at us t kind.Map rs c.loop-i.i d u l in
    let same = ap (λ (x : Cell). values (cell_value us x)) (c.cell.ensures ∙ ap (λ (r : Key × Cell). r.1) here) in
    (omega (arith, fewer, same), subst (CellBelow us) (sym c.cell.ensures) c.row-row.ensures.row.below)

pub unfold_entries-loop-i-preserved : goal.unfold_entries-loop-i-preserved
unfold_entries-loop-i-preserved w c =
    let us = states c.args.store.now in
    let rs = rows_at c.args.store.now c.args.id in
    let t = tree_at us c.args.id in
    let size = c.size-count.ensures in
    let many = size.rows in
    let u = unfolded us c.args.id kind.Map rs size.store size.number c.requires.table size.branches_are in
    let d = c.row-row.result.now in
    let turns = c.loop-i-test.true in
    let l : c.loop-i.i < length rs = omega (arith, many, turns) in
    let here = c.row-row.ensures.value d in
    let value = c.in_ok-value.ensures ∙ ap (cell_value us) (c.cell.ensures ∙ ap (λ (r : Key × Cell). r.1) here) in
    let name = c.in_ok-key.ensures ∙ c.key.ensures ∙ ap (λ (r : Key × Cell). r.0) here in
    let e : Entry = record { key = c.in_ok-key.key; value = c.in_ok-value.value } in
    turn (shown us) rs c.loop-i.i d (map of_entry c.loop-i.out.items) (map of_entry c.push.new.self.items) (of_entry e) l c.loop-i.invariant (ap (map of_entry) c.in_ok-push.ensures.items ∙ map-append of_entry c.loop-i.out.items (e ∷ [])) (λ j. (name j, value j))

pub unfold_entries-returns-clause-sorted : goal.unfold_entries-returns-clause-sorted
unfold_entries-returns-clause-sorted w c =
    let us = states c.args.store.now in
    let rs = rows_at c.args.store.now c.args.id in
    let t = tree_at us c.args.id in
    let size = c.size-count.ensures in
    let many = size.rows in
    let u = unfolded us c.args.id kind.Map rs size.store size.number c.requires.table size.branches_are in
    let turns = c.loop-i-test.false in
    let l : length rs ≤ c.loop-i.i = omega (arith, many, turns) in
    map_order us t rs (map of_entry c.loop-i.out.items) u (ended (shown us) rs c.loop-i.i (map of_entry c.loop-i.out.items) l c.loop-i.invariant)

pub unfold_entries-returns-clause-value : goal.unfold_entries-returns-clause-value
unfold_entries-returns-clause-value w c =
    let us = states c.args.store.now in
    let rs = rows_at c.args.store.now c.args.id in
    let t = tree_at us c.args.id in
    let size = c.size-count.ensures in
    let many = size.rows in
    let u = unfolded us c.args.id kind.Map rs size.store size.number c.requires.table size.branches_are in
    let turns = c.loop-i-test.false in
    let l : length rs ≤ c.loop-i.i = omega (arith, many, turns) in
    map_value us t rs (map of_entry c.loop-i.out.items) u (ended (shown us) rs c.loop-i.i (map of_entry c.loop-i.out.items) l c.loop-i.invariant)

-- ---- unfold_items
pub unfold_items-unfold_cell-requires : goal.unfold_items-unfold_cell-requires
unfold_items-unfold_cell-requires w c =
    let us = states c.args.store.now in
    let rs = rows_at c.args.store.now c.args.id in
    let t = tree_at us c.args.id in
    let size = c.size-count.ensures in
    let many = size.rows in
    let u = unfolded us c.args.id kind.List rs size.store size.number c.requires.list size.branches_are in
    let d = c.row-row.result.now in
    let turns = c.loop-i-test.true in
    let l : c.loop-i.i < length rs = omega (arith, many, turns) in
    let here = c.row-row.ensures.value d in
    let fewer = fewer_at us t kind.List rs c.loop-i.i d u l in
    let same = ap (λ (x : Cell). values (cell_value us x)) (c.cell.ensures ∙ ap (λ (r : Key × Cell). r.1) here) in
    (omega (arith, fewer, same), subst (CellBelow us) (sym c.cell.ensures) c.row-row.ensures.row.below)

pub unfold_items-loop-i-preserved : goal.unfold_items-loop-i-preserved
unfold_items-loop-i-preserved w c =
    let us = states c.args.store.now in
    let rs = rows_at c.args.store.now c.args.id in
    let t = tree_at us c.args.id in
    let size = c.size-count.ensures in
    let many = size.rows in
    let u = unfolded us c.args.id kind.List rs size.store size.number c.requires.list size.branches_are in
    let d = c.row-row.result.now in
    let turns = c.loop-i-test.true in
    let l : c.loop-i.i < length rs = omega (arith, many, turns) in
    let here = c.row-row.ensures.value d in
    let value = c.in_ok-unfold_cell.ensures ∙ ap (cell_value us) (c.cell.ensures ∙ ap (λ (r : Key × Cell). r.1) here) in
    turn (row_value us) rs c.loop-i.i d c.loop-i.out.items c.push.new.self.items c.in_ok-unfold_cell.field-0 l c.loop-i.invariant c.in_ok-push.ensures.items value

pub unfold_items-returns : goal.unfold_items-returns
unfold_items-returns w c =
    let us = states c.args.store.now in
    let rs = rows_at c.args.store.now c.args.id in
    let t = tree_at us c.args.id in
    let size = c.size-count.ensures in
    let many = size.rows in
    let u = unfolded us c.args.id kind.List rs size.store size.number c.requires.list size.branches_are in
    let turns = c.loop-i-test.false in
    let l : length rs ≤ c.loop-i.i = omega (arith, many, turns) in
    list_value us t rs c.loop-i.out.items u (ended (row_value us) rs c.loop-i.i c.loop-i.out.items l c.loop-i.invariant)
