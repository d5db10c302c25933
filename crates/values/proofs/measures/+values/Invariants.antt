use Rattle.std.proofs.Common.{◌≡◌, ◌≤◌, ◌^◌, ◌+◌, ◌*◌, min, drop}
use Rattle.value_model.specs.Plain as spec
use Rattle.values.specs.Seen.{of_fields, of_entries, of_items}
use Rattle.values.proofs.measures.+values.Given as goal

abbrev pub invariant-values_of_fields-loop-f : goal.invariant-values_of_fields-loop-f
invariant-values_of_fields-loop-f l = let rest = of_fields (drop l.f-index l.fields) in record {
  total : min (l.total + spec.values_in rest) (2 ^ 63) ≡ min (spec.values_in (of_fields l.fields)) (2 ^ 63);
  rest : spec.values_in rest ≤ spec.values_in (of_fields l.fields);
  capped : l.total ≤ 2 ^ 63;
}

abbrev pub invariant-values_of_items-loop-v : goal.invariant-values_of_items-loop-v
invariant-values_of_items-loop-v l = let rest = of_items (drop l.v-index l.items) in record {
  total : min (l.total + spec.values_in rest) (2 ^ 63) ≡ min (spec.values_in (of_items l.items)) (2 ^ 63);
  rest : spec.values_in rest ≤ spec.values_in (of_items l.items);
  capped : l.total ≤ 2 ^ 63;
}

abbrev pub invariant-values_of_entries-loop-e : goal.invariant-values_of_entries-loop-e
invariant-values_of_entries-loop-e l = let rest = of_entries (drop l.e-index l.entries) in record {
  total : min (l.total + spec.values_in rest) (2 ^ 63) ≡ min (spec.values_in (of_entries l.entries)) (2 ^ 63);
  rest : spec.values_in rest ≤ spec.values_in (of_entries l.entries);
  capped : l.total ≤ 2 ^ 63;
}

abbrev pub decreases-values : goal.decreases-values
decreases-values l = 2 * spec.values l.v.now

abbrev pub decreases-values_of_fields : goal.decreases-values_of_fields
decreases-values_of_fields l = 2 * spec.values_in (of_fields l.fields.now) + 1

abbrev pub decreases-values_of_items : goal.decreases-values_of_items
decreases-values_of_items l = 2 * spec.values_in (of_items l.items.now) + 1

abbrev pub decreases-values_of_entries : goal.decreases-values_of_entries
decreases-values_of_entries l = 2 * spec.values_in (of_entries l.entries.now) + 1
