use Rattle.std.proofs.Common.{◌≡◌, ◌≤◌, ◌++◌, ◌+◌, ◌*◌, drop}
use Rattle.value_model.specs.Plain.{values, values_in}
use Rattle.values.specs.Seen.{of_fields, of_entries, of_items}
use Rattle.values.proofs.copies.+copy.Given as goal

abbrev pub invariant-copy_fields-loop-f : goal.invariant-copy_fields-loop-f
invariant-copy_fields-loop-f l = let rest = drop l.f-index l.fields.items in record {
  out : l.out.items ++ rest ≡ l.fields.items;
  rest : values_in (of_fields rest) ≤ values_in (of_fields l.fields.items);
}

abbrev pub decreases-copy_fields : goal.decreases-copy_fields
decreases-copy_fields l = 2 * values_in (of_fields l.fields.now.items) + 1

abbrev pub invariant-copy_items-loop-v : goal.invariant-copy_items-loop-v
invariant-copy_items-loop-v l = let rest = drop l.v-index l.items.items in record {
  out : l.out.items ++ rest ≡ l.items.items;
  rest : values_in (of_items rest) ≤ values_in (of_items l.items.items);
}

abbrev pub decreases-copy_items : goal.decreases-copy_items
decreases-copy_items l = 2 * values_in (of_items l.items.now.items) + 1

abbrev pub invariant-copy_entries-loop-e : goal.invariant-copy_entries-loop-e
invariant-copy_entries-loop-e l = let rest = drop l.e-index l.entries.items in record {
  out : l.out.items ++ rest ≡ l.entries.items;
  rest : values_in (of_entries rest) ≤ values_in (of_entries l.entries.items);
}

abbrev pub decreases-copy_entries : goal.decreases-copy_entries
decreases-copy_entries l = 2 * values_in (of_entries l.entries.now.items) + 1

abbrev pub decreases-copy : goal.decreases-copy
decreases-copy l = 2 * values l.v.now
