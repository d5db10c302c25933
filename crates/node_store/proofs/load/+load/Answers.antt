use Rattle.std.proofs.Common.{◌+◌, ℕ, List, [], ◌∷◌, ◌++◌, map, drop, get_or, ap, sym, ◌∙◌, subst, arith, refl}
use Rattle.std.specs.Prelude.{Err}
use Rattle.std.specs.FinMap.Entries.{is_sorted}
use Rattle.value_model.specs.Order.{key_cmp}
use Rattle.std.proofs.lemmas.Result.{err_from_is_err_and}
use Rattle.value_model.specs.declared.key.Key.{Key}
use Rattle.value_model.specs.declared.key.Key.TheVariants as key
use Rattle.value_model.specs.declared.kind.Kind.TheVariants as kind
use Rattle.value_model.specs.Plain.{Plain, values_in}
use Rattle.value_model.proofs.Steps.{list_of_entries}
use Rattle.values.proofs.Fits.{fields_fit}
use Rattle.values.specs.Seen.{of_field, of_entry, of_item, of_fields, of_entries, of_items}
use Rattle.values.specs.declared.val.Field.{Field}
use Rattle.values.specs.declared.val.Entry.{Entry}
use Rattle.node_store.specs.Loads.{IsLoading, full_in}
use Rattle.node_store.proofs.Loads.{entries_step, loading_step, loading_refused, loading_end, entries_end, list_push, for_memory, refused_in, root_accepted, root_loaded, root_refused, not_full, obj_rows, map_rows, obj_node, map_node, all_within}
use Rattle.node_store.specs.Nodes.{rows, CellsBelow}
use Rattle.node_store.proofs.Tables.{cells_of_rows}
use Rattle.node_store.specs.Paged.{Paged, states, IsLonger}
use Rattle.node_store.proofs.Grown.{longer_then}
use Rattle.node_store.proofs.load.+load.Goals as goal

-- ---- load_object
pub load_object-load_fields-requires : goal.load_object-load_fields-requires
load_object-load_fields-requires t c = (omega arith, all_within kind.Obj (of_fields c.args.fields.now.items) c.requires.accepted)

pub load_object-into_node-requires : goal.load_object-into_node-requires
load_object-into_node-requires t c =
    let xs = c.args.fields.now.items in
    let sorted = ap (is_sorted key_cmp) (list_of_entries (map of_field xs)) ∙ c.requires.sorted in
    obj_node (states c.args.store.now) (of_fields xs) (states c.load_fields.new.store) c.in_ok-table.table c.in_ok-table.ensures.done sorted (fields_fit xs)

pub load_object-add-requires-clause-accepted : goal.load_object-add-requires-clause-accepted
load_object-add-requires-clause-accepted t c =
    let made = c.into_node.ensures in
    let same = obj_rows c.into_node.result c.in_ok-table.table made.kind made.keys made.cells in
    root_accepted (states c.args.store.now) (states c.load_fields.new.store) kind.Obj (of_fields c.args.fields.now.items) c.in_ok-table.table c.into_node.result.kind c.into_node.result.keys c.into_node.result.cells c.in_ok-table.ensures.done made.kind same c.requires.accepted

pub load_object-returns-in_err-table-clause-done : goal.load_object-returns-in_err-table-clause-done
load_object-returns-in_err-table-clause-done t c =
    let p = err_from_is_err_and c.from_residual.result c.from_residual.ensures.1 in
    rw (p.1, p.2) (refused_in (states c.args.store.now) (states c.load_fields.new.store) kind.Obj (of_fields c.args.fields.now.items) c.in_err-table.field-0.0 c.in_err-table.ensures.done)

pub load_object-returns-in_err-id-clause-done : goal.load_object-returns-in_err-id-clause-done
load_object-returns-in_err-id-clause-done t c =
    let p = err_from_is_err_and c.from_residual-in_err-id.result c.from_residual-in_err-id.ensures.1 in
    let made = c.into_node.ensures in
    let same = obj_rows c.into_node.result c.in_ok-table.table made.kind made.keys made.cells in
    rw (p.1, p.2) (root_refused (states c.args.store.now) (states c.load_fields.new.store) kind.Obj (of_fields c.args.fields.now.items) c.in_ok-table.table c.into_node.result.kind c.into_node.result.keys c.into_node.result.cells c.in_ok-table.ensures.done made.kind same (states c.add.new.self) c.in_err-id.field-0.0 (ap (λ (s : Paged). states s) c.in_err-id.ensures.stands) (λ g. c.in_err-id.ensures.only (ap Err g)))

pub load_object-returns-clause-done : goal.load_object-returns-clause-done
load_object-returns-clause-done t c =
    let made = c.into_node.ensures in
    let same = obj_rows c.into_node.result c.in_ok-table.table made.kind made.keys made.cells in
    let done = c.in_ok-id.ensures in
    root_loaded (states c.args.store.now) (states c.load_fields.new.store) kind.Obj (of_fields c.args.fields.now.items) c.in_ok-table.table c.into_node.result.kind c.into_node.result.keys c.into_node.result.cells c.in_ok-table.ensures.done made.kind same (states c.add.new.self) c.in_ok-id.id (not_full _ c.in_ok-id.id done.full) done.ok.0 done.ok.1

-- ---- load_map
pub load_map-load_entries-requires : goal.load_map-load_entries-requires
load_map-load_entries-requires t c = (omega arith, all_within kind.Map (of_entries c.args.entries.now.items) c.requires.accepted)

pub load_map-into_node-requires : goal.load_map-into_node-requires
load_map-into_node-requires t c =
    let xs = c.args.entries.now.items in
    let sorted = ap (is_sorted key_cmp) (list_of_entries (map of_entry xs)) ∙ c.requires.sorted in
    map_node (states c.args.store.now) (of_entries xs) (states c.load_entries.new.store) c.in_ok-table.table c.in_ok-table.ensures.done sorted

pub load_map-add-requires-clause-accepted : goal.load_map-add-requires-clause-accepted
load_map-add-requires-clause-accepted t c =
    let made = c.into_node.ensures in
    let same = map_rows c.into_node.result c.in_ok-table.table made.kind made.keys made.cells in
    root_accepted (states c.args.store.now) (states c.load_entries.new.store) kind.Map (of_entries c.args.entries.now.items) c.in_ok-table.table c.into_node.result.kind c.into_node.result.keys c.into_node.result.cells c.in_ok-table.ensures.done made.kind same c.requires.accepted

pub load_map-returns-in_err-table-clause-done : goal.load_map-returns-in_err-table-clause-done
load_map-returns-in_err-table-clause-done t c =
    let p = err_from_is_err_and c.from_residual.result c.from_residual.ensures.1 in
    rw (p.1, p.2) (refused_in (states c.args.store.now) (states c.load_entries.new.store) kind.Map (of_entries c.args.entries.now.items) c.in_err-table.field-0.0 c.in_err-table.ensures.done)

pub load_map-returns-in_err-id-clause-done : goal.load_map-returns-in_err-id-clause-done
load_map-returns-in_err-id-clause-done t c =
    let p = err_from_is_err_and c.from_residual-in_err-id.result c.from_residual-in_err-id.ensures.1 in
    let made = c.into_node.ensures in
    let same = map_rows c.into_node.result c.in_ok-table.table made.kind made.keys made.cells in
    rw (p.1, p.2) (root_refused (states c.args.store.now) (states c.load_entries.new.store) kind.Map (of_entries c.args.entries.now.items) c.in_ok-table.table c.into_node.result.kind c.into_node.result.keys c.into_node.result.cells c.in_ok-table.ensures.done made.kind same (states c.add.new.self) c.in_err-id.field-0.0 (ap (λ (s : Paged). states s) c.in_err-id.ensures.stands) (λ g. c.in_err-id.ensures.only (ap Err g)))

pub load_map-returns-clause-done : goal.load_map-returns-clause-done
load_map-returns-clause-done t c =
    let made = c.into_node.ensures in
    let same = map_rows c.into_node.result c.in_ok-table.table made.kind made.keys made.cells in
    let done = c.in_ok-id.ensures in
    root_loaded (states c.args.store.now) (states c.load_entries.new.store) kind.Map (of_entries c.args.entries.now.items) c.in_ok-table.table c.into_node.result.kind c.into_node.result.keys c.into_node.result.cells c.in_ok-table.ensures.done made.kind same (states c.add.new.self) c.in_ok-id.id (not_full _ c.in_ok-id.id done.full) done.ok.0 done.ok.1

-- ---- load_fields
pub load_fields-loop-f-preserved : goal.load_fields-loop-f-preserved
load_fields-loop-f-preserved t c =
    let xs = c.args.fields.now.items in
    let i = c.loop-f.f-index in
    let one = c.f-item.result in
    let step = entries_step of_field xs i one (grind arith) (c.f-item.is ∙ ap (λ (ys : List Field). get_or ys i one) c.deref-f-items.ensures.value) in
    let rest = of_fields (drop (i + 1) xs) in
    let here = subst (λ es. IsLoading (states c.args.store.now) (of_fields xs) (states c.loop-f.store) c.loop-f.table es) step c.loop-f.invariant.loading in
    let next = loading_step (states c.args.store.now) (of_fields xs) (states c.loop-f.store) (states c.load_cell.new.store) c.loop-f.table (key.Text c.f-item.result.key) one.value rest c.in_ok-cell.cell here c.in_ok-cell.ensures.done in
    let fewer = c.loop-f.invariant.fewer in
    let less = ap values_in step in
    record {
      loading = subst (λ rs. IsLoading (states c.args.store.now) (of_fields xs) (states c.load_cell.new.store) rs rest) (sym (c.in_ok-table-2.ensures ∙ ap (λ (k : List ℕ). c.loop-f.table ++ (key.Text k, c.in_ok-cell.cell) ∷ []) c.in_ok-copy.ensures)) next;
      fewer = omega (arith, fewer, less);
      longer = longer_then c.args.store.now c.loop-f.store c.load_cell.new.store c.loop-f.invariant.longer c.in_ok-cell.ensures.longer;
    }

pub load_fields-returns-in_err-cell-clause-done : goal.load_fields-returns-in_err-cell-clause-done
load_fields-returns-in_err-cell-clause-done t c =
    let p = err_from_is_err_and c.from_residual-in_err-cell.result c.from_residual-in_err-cell.ensures.1 in
    let xs = c.args.fields.now.items in
    let i = c.loop-f.f-index in
    let one = c.f-item.result in
    let step = entries_step of_field xs i one (grind arith) (c.f-item.is ∙ ap (λ (ys : List Field). get_or ys i one) c.deref-f-items.ensures.value) in
    let rest = of_fields (drop (i + 1) xs) in
    let here = subst (λ es. IsLoading (states c.args.store.now) (of_fields xs) (states c.loop-f.store) c.loop-f.table es) step c.loop-f.invariant.loading in
    rw (p.1, p.2) (loading_refused (states c.args.store.now) (of_fields xs) (states c.loop-f.store) (states c.load_cell.new.store) c.loop-f.table (key.Text c.f-item.result.key) one.value rest c.in_err-cell.field-0.0 here c.in_err-cell.ensures.done)

pub load_fields-returns-in_err-table-2-clause-done : goal.load_fields-returns-in_err-table-2-clause-done
load_fields-returns-in_err-table-2-clause-done t c =
    let p = err_from_is_err_and c.from_residual-in_err-table-2.result c.from_residual-in_err-table-2.ensures.1 in
    let xs = c.args.fields.now.items in
    let i = c.loop-f.f-index in
    let one = c.f-item.result in
    let step = entries_step of_field xs i one (grind arith) (c.f-item.is ∙ ap (λ (ys : List Field). get_or ys i one) c.deref-f-items.ensures.value) in
    let rest = of_fields (drop (i + 1) xs) in
    let here = subst (λ es. IsLoading (states c.args.store.now) (of_fields xs) (states c.loop-f.store) c.loop-f.table es) step c.loop-f.invariant.loading in
    let next = loading_step (states c.args.store.now) (of_fields xs) (states c.loop-f.store) (states c.load_cell.new.store) c.loop-f.table (key.Text c.f-item.result.key) one.value rest c.in_ok-cell.cell here c.in_ok-cell.ensures.done in
    rw (p.1, p.2) (for_memory (states c.args.store.now) (states c.load_cell.new.store) (full_in (states c.args.store.now) (of_fields xs)) next.extends)

pub load_fields-returns-clause-done : goal.load_fields-returns-clause-done
load_fields-returns-clause-done t c =
    let xs = c.args.fields.now.items in
    let none = entries_end of_field xs c.loop-f.f-index (grind arith) in
    loading_end (states c.args.store.now) (of_fields xs) (states c.loop-f.store) c.loop-f.table (subst (λ es. IsLoading (states c.args.store.now) (of_fields xs) (states c.loop-f.store) c.loop-f.table es) none c.loop-f.invariant.loading)

-- ---- load_entries
pub load_entries-loop-e-preserved : goal.load_entries-loop-e-preserved
load_entries-loop-e-preserved t c =
    let xs = c.args.entries.now.items in
    let i = c.loop-e.e-index in
    let one = c.e-item.result in
    let step = entries_step of_entry xs i one (grind arith) (c.e-item.is ∙ ap (λ (ys : List Entry). get_or ys i one) c.deref-e-items.ensures.value) in
    let rest = of_entries (drop (i + 1) xs) in
    let here = subst (λ es. IsLoading (states c.args.store.now) (of_entries xs) (states c.loop-e.store) c.loop-e.table es) step c.loop-e.invariant.loading in
    let next = loading_step (states c.args.store.now) (of_entries xs) (states c.loop-e.store) (states c.load_cell.new.store) c.loop-e.table (c.e-item.result.key) one.value rest c.in_ok-cell.cell here c.in_ok-cell.ensures.done in
    let fewer = c.loop-e.invariant.fewer in
    let less = ap values_in step in
    record {
      loading = subst (λ rs. IsLoading (states c.args.store.now) (of_entries xs) (states c.load_cell.new.store) rs rest) (sym (c.in_ok-table-2.ensures ∙ ap (λ (k : Key). c.loop-e.table ++ (k, c.in_ok-cell.cell) ∷ []) c.in_ok-key.ensures)) next;
      fewer = omega (arith, fewer, less);
      longer = longer_then c.args.store.now c.loop-e.store c.load_cell.new.store c.loop-e.invariant.longer c.in_ok-cell.ensures.longer;
    }

pub load_entries-returns-in_err-cell-clause-done : goal.load_entries-returns-in_err-cell-clause-done
load_entries-returns-in_err-cell-clause-done t c =
    let p = err_from_is_err_and c.from_residual-in_err-cell.result c.from_residual-in_err-cell.ensures.1 in
    let xs = c.args.entries.now.items in
    let i = c.loop-e.e-index in
    let one = c.e-item.result in
    let step = entries_step of_entry xs i one (grind arith) (c.e-item.is ∙ ap (λ (ys : List Entry). get_or ys i one) c.deref-e-items.ensures.value) in
    let rest = of_entries (drop (i + 1) xs) in
    let here = subst (λ es. IsLoading (states c.args.store.now) (of_entries xs) (states c.loop-e.store) c.loop-e.table es) step c.loop-e.invariant.loading in
    rw (p.1, p.2) (loading_refused (states c.args.store.now) (of_entries xs) (states c.loop-e.store) (states c.load_cell.new.store) c.loop-e.table (c.e-item.result.key) one.value rest c.in_err-cell.field-0.0 here c.in_err-cell.ensures.done)

pub load_entries-returns-in_err-table-2-clause-done : goal.load_entries-returns-in_err-table-2-clause-done
load_entries-returns-in_err-table-2-clause-done t c =
    let p = err_from_is_err_and c.from_residual-in_err-table-2.result c.from_residual-in_err-table-2.ensures.1 in
    let xs = c.args.entries.now.items in
    let i = c.loop-e.e-index in
    let one = c.e-item.result in
    let step = entries_step of_entry xs i one (grind arith) (c.e-item.is ∙ ap (λ (ys : List Entry). get_or ys i one) c.deref-e-items.ensures.value) in
    let rest = of_entries (drop (i + 1) xs) in
    let here = subst (λ es. IsLoading (states c.args.store.now) (of_entries xs) (states c.loop-e.store) c.loop-e.table es) step c.loop-e.invariant.loading in
    let next = loading_step (states c.args.store.now) (of_entries xs) (states c.loop-e.store) (states c.load_cell.new.store) c.loop-e.table (c.e-item.result.key) one.value rest c.in_ok-cell.cell here c.in_ok-cell.ensures.done in
    rw (p.1, p.2) (for_memory (states c.args.store.now) (states c.load_cell.new.store) (full_in (states c.args.store.now) (of_entries xs)) next.extends)

pub load_entries-returns-clause-done : goal.load_entries-returns-clause-done
load_entries-returns-clause-done t c =
    let xs = c.args.entries.now.items in
    let none = entries_end of_entry xs c.loop-e.e-index (grind arith) in
    loading_end (states c.args.store.now) (of_entries xs) (states c.loop-e.store) c.loop-e.table (subst (λ es. IsLoading (states c.args.store.now) (of_entries xs) (states c.loop-e.store) c.loop-e.table es) none c.loop-e.invariant.loading)

-- ---- load_items
pub load_items-loop-v-preserved : goal.load_items-loop-v-preserved
load_items-loop-v-preserved t c =
    let xs = c.args.items.now.items in
    let i = c.loop-v.v-index in
    let one = c.v-item.result in
    let step = entries_step of_item xs i one (grind arith) (c.v-item.is ∙ ap (λ (ys : List Plain). get_or ys i one) c.deref-v-items.ensures.value) in
    let rest = of_items (drop (i + 1) xs) in
    let rs = rows kind.List [] c.loop-v.cells.items in
    let here = subst (λ es. IsLoading (states c.args.store.now) (of_items xs) (states c.loop-v.store) rs es) step c.loop-v.invariant.loading in
    let next = loading_step (states c.args.store.now) (of_items xs) (states c.loop-v.store) (states c.load_cell.new.store) rs key.Null one rest c.in_ok-cell.cell here c.in_ok-cell.ensures.done in
    let fewer = c.loop-v.invariant.fewer in
    let less = ap values_in step in
    record {
      loading = subst (λ qs. IsLoading (states c.args.store.now) (of_items xs) (states c.load_cell.new.store) qs rest) (sym (ap (rows kind.List []) c.in_ok-push.ensures.items ∙ list_push c.loop-v.cells.items c.in_ok-cell.cell)) next;
      fewer = omega (arith, fewer, less);
      longer = longer_then c.args.store.now c.loop-v.store c.load_cell.new.store c.loop-v.invariant.longer c.in_ok-cell.ensures.longer;
    }

pub load_items-returns-in_err-cell-clause-done : goal.load_items-returns-in_err-cell-clause-done
load_items-returns-in_err-cell-clause-done t c =
    let p = err_from_is_err_and c.from_residual-in_err-cell.result c.from_residual-in_err-cell.ensures.1 in
    let xs = c.args.items.now.items in
    let i = c.loop-v.v-index in
    let one = c.v-item.result in
    let step = entries_step of_item xs i one (grind arith) (c.v-item.is ∙ ap (λ (ys : List Plain). get_or ys i one) c.deref-v-items.ensures.value) in
    let rest = of_items (drop (i + 1) xs) in
    let rs = rows kind.List [] c.loop-v.cells.items in
    let here = subst (λ es. IsLoading (states c.args.store.now) (of_items xs) (states c.loop-v.store) rs es) step c.loop-v.invariant.loading in
    rw (p.1, p.2) (loading_refused (states c.args.store.now) (of_items xs) (states c.loop-v.store) (states c.load_cell.new.store) rs key.Null one rest c.in_err-cell.field-0.0 here c.in_err-cell.ensures.done)

pub load_items-returns-in_err-push-clause-done : goal.load_items-returns-in_err-push-clause-done
load_items-returns-in_err-push-clause-done t c =
    let p = err_from_is_err_and c.from_residual-in_err-push.result c.from_residual-in_err-push.ensures.1 in
    let xs = c.args.items.now.items in
    let i = c.loop-v.v-index in
    let one = c.v-item.result in
    let step = entries_step of_item xs i one (grind arith) (c.v-item.is ∙ ap (λ (ys : List Plain). get_or ys i one) c.deref-v-items.ensures.value) in
    let rest = of_items (drop (i + 1) xs) in
    let rs = rows kind.List [] c.loop-v.cells.items in
    let here = subst (λ es. IsLoading (states c.args.store.now) (of_items xs) (states c.loop-v.store) rs es) step c.loop-v.invariant.loading in
    let next = loading_step (states c.args.store.now) (of_items xs) (states c.loop-v.store) (states c.load_cell.new.store) rs key.Null one rest c.in_ok-cell.cell here c.in_ok-cell.ensures.done in
    rw (p.1, p.2) (for_memory (states c.args.store.now) (states c.load_cell.new.store) (full_in (states c.args.store.now) (of_items xs)) next.extends)

pub load_items-returns-clause-done : goal.load_items-returns-clause-done
load_items-returns-clause-done t c =
    let xs = c.args.items.now.items in
    let none = entries_end of_item xs c.loop-v.v-index (grind arith) in
    let rs = rows kind.List [] c.loop-v.cells.items in
    loading_end (states c.args.store.now) (of_items xs) (states c.loop-v.store) rs (subst (λ es. IsLoading (states c.args.store.now) (of_items xs) (states c.loop-v.store) rs es) none c.loop-v.invariant.loading)

-- ---- load_list
pub load_list-load_items-requires : goal.load_list-load_items-requires
load_list-load_items-requires t c = (omega arith, all_within kind.List (of_items c.args.items.now.items) c.requires)

pub load_list-returns-in_err-load_items-clause-done : goal.load_list-returns-in_err-load_items-clause-done
load_list-returns-in_err-load_items-clause-done t c =
    let p = err_from_is_err_and c.from_residual.result c.from_residual.ensures.1 in
    rw (p.1, p.2) (refused_in (states c.args.store.now) (states c.load_items.new.store) kind.List (of_items c.args.items.now.items) c.in_err-load_items.field-0.0 c.in_err-load_items.ensures.done)

pub load_list-add-requires-clause-below : goal.load_list-add-requires-clause-below
load_list-add-requires-clause-below t c =
    let cells = c.in_ok-load_items.field-0.items in
    subst (CellsBelow (states c.load_items.new.store)) (cells_of_rows kind.List [] cells refl ∙ sym c.from_vec-cells.ensures) c.in_ok-load_items.ensures.done.below

pub load_list-add-requires-clause-accepted : goal.load_list-add-requires-clause-accepted
load_list-add-requires-clause-accepted t c =
    root_accepted (states c.args.store.now) (states c.load_items.new.store) kind.List (of_items c.args.items.now.items) (rows kind.List [] c.in_ok-load_items.field-0.items) kind.List c.from_vec-keys.result c.from_vec-cells.result c.in_ok-load_items.ensures.done refl (ap (rows kind.List []) c.from_vec-cells.ensures) c.requires

pub load_list-returns-in_err-id-clause-done : goal.load_list-returns-in_err-id-clause-done
load_list-returns-in_err-id-clause-done t c =
    let p = err_from_is_err_and c.from_residual-in_err-id.result c.from_residual-in_err-id.ensures.1 in
    rw (p.1, p.2) (root_refused (states c.args.store.now) (states c.load_items.new.store) kind.List (of_items c.args.items.now.items) (rows kind.List [] c.in_ok-load_items.field-0.items) kind.List c.from_vec-keys.result c.from_vec-cells.result c.in_ok-load_items.ensures.done refl (ap (rows kind.List []) c.from_vec-cells.ensures) (states c.add.new.self) c.in_err-id.field-0.0 (ap (λ (s : Paged). states s) c.in_err-id.ensures.stands) (λ g. c.in_err-id.ensures.only (ap Err g)))

pub load_list-returns-clause-done : goal.load_list-returns-clause-done
load_list-returns-clause-done t c =
    let done = c.in_ok-id.ensures in
    root_loaded (states c.args.store.now) (states c.load_items.new.store) kind.List (of_items c.args.items.now.items) (rows kind.List [] c.in_ok-load_items.field-0.items) kind.List c.from_vec-keys.result c.from_vec-cells.result c.in_ok-load_items.ensures.done refl (ap (rows kind.List []) c.from_vec-cells.ensures) (states c.add.new.self) c.in_ok-id.id (not_full _ c.in_ok-id.id done.full) done.ok.0 done.ok.1

-- ---- a loading leaves the nodes and pages that there were
pub load_object-returns-in_err-id-clause-longer : goal.load_object-returns-in_err-id-clause-longer
load_object-returns-in_err-id-clause-longer t c = subst (λ (s : Paged). IsLonger c.args.store.now s) (sym c.in_err-id.ensures.stands) c.in_ok-table.ensures.longer

pub load_object-returns-clause-longer : goal.load_object-returns-clause-longer
load_object-returns-clause-longer t c = longer_then c.args.store.now c.load_fields.new.store c.add.new.self c.in_ok-table.ensures.longer c.in_ok-id.ensures.longer

pub load_map-returns-in_err-id-clause-longer : goal.load_map-returns-in_err-id-clause-longer
load_map-returns-in_err-id-clause-longer t c = subst (λ (s : Paged). IsLonger c.args.store.now s) (sym c.in_err-id.ensures.stands) c.in_ok-table.ensures.longer

pub load_map-returns-clause-longer : goal.load_map-returns-clause-longer
load_map-returns-clause-longer t c = longer_then c.args.store.now c.load_entries.new.store c.add.new.self c.in_ok-table.ensures.longer c.in_ok-id.ensures.longer

pub load_list-returns-in_err-id-clause-longer : goal.load_list-returns-in_err-id-clause-longer
load_list-returns-in_err-id-clause-longer t c = subst (λ (s : Paged). IsLonger c.args.store.now s) (sym c.in_err-id.ensures.stands) c.in_ok-load_items.ensures.longer

pub load_list-returns-clause-longer : goal.load_list-returns-clause-longer
load_list-returns-clause-longer t c = longer_then c.args.store.now c.load_items.new.store c.add.new.self c.in_ok-load_items.ensures.longer c.in_ok-id.ensures.longer

pub load_fields-returns-in_err-cell-clause-longer : goal.load_fields-returns-in_err-cell-clause-longer
load_fields-returns-in_err-cell-clause-longer t c = longer_then c.args.store.now c.loop-f.store c.load_cell.new.store c.loop-f.invariant.longer c.in_err-cell.ensures.longer

pub load_fields-returns-in_err-table-2-clause-longer : goal.load_fields-returns-in_err-table-2-clause-longer
load_fields-returns-in_err-table-2-clause-longer t c = longer_then c.args.store.now c.loop-f.store c.load_cell.new.store c.loop-f.invariant.longer c.in_ok-cell.ensures.longer

pub load_entries-returns-in_err-cell-clause-longer : goal.load_entries-returns-in_err-cell-clause-longer
load_entries-returns-in_err-cell-clause-longer t c = longer_then c.args.store.now c.loop-e.store c.load_cell.new.store c.loop-e.invariant.longer c.in_err-cell.ensures.longer

pub load_entries-returns-in_err-table-2-clause-longer : goal.load_entries-returns-in_err-table-2-clause-longer
load_entries-returns-in_err-table-2-clause-longer t c = longer_then c.args.store.now c.loop-e.store c.load_cell.new.store c.loop-e.invariant.longer c.in_ok-cell.ensures.longer

pub load_items-returns-in_err-cell-clause-longer : goal.load_items-returns-in_err-cell-clause-longer
load_items-returns-in_err-cell-clause-longer t c = longer_then c.args.store.now c.loop-v.store c.load_cell.new.store c.loop-v.invariant.longer c.in_err-cell.ensures.longer

pub load_items-returns-in_err-push-clause-longer : goal.load_items-returns-in_err-push-clause-longer
load_items-returns-in_err-push-clause-longer t c = longer_then c.args.store.now c.loop-v.store c.load_cell.new.store c.loop-v.invariant.longer c.in_ok-cell.ensures.longer
