use Rattle.std.proofs.Common.{◌≤◌, ◌+◌, ◌*◌, [], drop}
use Rattle.value_model.specs.declared.kind.Kind.TheVariants as kind
use Rattle.value_model.specs.Plain.{values, values_in}
use Rattle.values.specs.Seen.{of_fields, of_entries, of_items}
use Rattle.node_store.specs.Loads.{IsLoading}
use Rattle.node_store.specs.Nodes.{rows}
use Rattle.node_store.specs.Paged.{states, IsLonger}
use Rattle.node_store.proofs.load.+load.Given as goal

abbrev pub decreases-load_cell : goal.decreases-load_cell
decreases-load_cell l = 3 * values l.v.now

abbrev pub decreases-load_object : goal.decreases-load_object
decreases-load_object l = 3 * values_in (of_fields l.fields.now.items) + 2

abbrev pub decreases-load_fields : goal.decreases-load_fields
decreases-load_fields l = 3 * values_in (of_fields l.fields.now.items) + 1

abbrev pub decreases-load_map : goal.decreases-load_map
decreases-load_map l = 3 * values_in (of_entries l.entries.now.items) + 2

abbrev pub decreases-load_entries : goal.decreases-load_entries
decreases-load_entries l = 3 * values_in (of_entries l.entries.now.items) + 1

abbrev pub decreases-load_list : goal.decreases-load_list
decreases-load_list l = 3 * values_in (of_items l.items.now.items) + 2

abbrev pub decreases-load_items : goal.decreases-load_items
decreases-load_items l = 3 * values_in (of_items l.items.now.items) + 1

abbrev pub invariant-load_fields-loop-f : goal.invariant-load_fields-loop-f
invariant-load_fields-loop-f l = let rest = of_fields (drop l.f-index l.fields.items) in record {
  loading : IsLoading (states l.fn.store) (of_fields l.fields.items) (states l.store) l.table rest;
  fewer : values_in rest ≤ values_in (of_fields l.fields.items);
  longer : IsLonger l.fn.store l.store;
}

abbrev pub invariant-load_entries-loop-e : goal.invariant-load_entries-loop-e
invariant-load_entries-loop-e l = let rest = of_entries (drop l.e-index l.entries.items) in record {
  loading : IsLoading (states l.fn.store) (of_entries l.entries.items) (states l.store) l.table rest;
  fewer : values_in rest ≤ values_in (of_entries l.entries.items);
  longer : IsLonger l.fn.store l.store;
}

abbrev pub invariant-load_items-loop-v : goal.invariant-load_items-loop-v
invariant-load_items-loop-v l = let rest = of_items (drop l.v-index l.items.items) in record {
  loading : IsLoading (states l.fn.store) (of_items l.items.items) (states l.store) (rows kind.List [] l.cells.items) rest;
  fewer : values_in rest ≤ values_in (of_items l.items.items);
  longer : IsLonger l.fn.store l.store;
}
