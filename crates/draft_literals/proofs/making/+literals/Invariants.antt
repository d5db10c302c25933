use Rattle.std.proofs.Common.{◌≤◌, ◌+◌, ◌*◌, drop}
use Rattle.value_model.specs.Plain.{values, values_in}
use Rattle.values.specs.Seen.{of_fields, of_entries, of_items}
use Rattle.draft_literals.specs.Making.{IsMaking}
use Rattle.draft_literals.proofs.making.+literals.Given as goal

abbrev pub decreases-literals : goal.decreases-literals
decreases-literals l = 3 * values l.v.now

abbrev pub decreases-literal_object : goal.decreases-literal_object
decreases-literal_object l = 3 * values_in (of_fields l.fields.now.items) + 2

abbrev pub decreases-literal_fields : goal.decreases-literal_fields
decreases-literal_fields l = 3 * values_in (of_fields l.fields.now.items) + 1

abbrev pub decreases-literal_list : goal.decreases-literal_list
decreases-literal_list l = 3 * values_in (of_items l.items.now.items) + 2

abbrev pub decreases-literal_items : goal.decreases-literal_items
decreases-literal_items l = 3 * values_in (of_items l.items.now.items) + 1

abbrev pub decreases-literal_map : goal.decreases-literal_map
decreases-literal_map l = 3 * values_in (of_entries l.entries.now.items) + 2

abbrev pub decreases-literal_entries : goal.decreases-literal_entries
decreases-literal_entries l = 3 * values_in (of_entries l.entries.now.items) + 1

abbrev pub invariant-literal_fields-loop-f : goal.invariant-literal_fields-loop-f
invariant-literal_fields-loop-f l = let rest = of_fields (drop l.f-index l.fields.items) in record {
  making : IsMaking l.scope l.first (of_fields l.fields.items) l.fn.out.items l.out.items l.table.items rest;
  fewer : values_in rest ≤ values_in (of_fields l.fields.items);
}

abbrev pub invariant-literal_items-loop-v : goal.invariant-literal_items-loop-v
invariant-literal_items-loop-v l = let rest = of_items (drop l.v-index l.items.items) in record {
  making : IsMaking l.scope l.first (of_items l.items.items) l.fn.out.items l.out.items l.table.items rest;
  fewer : values_in rest ≤ values_in (of_items l.items.items);
}

abbrev pub invariant-literal_entries-loop-e : goal.invariant-literal_entries-loop-e
invariant-literal_entries-loop-e l = let rest = of_entries (drop l.e-index l.entries.items) in record {
  making : IsMaking l.scope l.first (of_entries l.entries.items) l.fn.out.items l.out.items l.table.items rest;
  fewer : values_in rest ≤ values_in (of_entries l.entries.items);
}
