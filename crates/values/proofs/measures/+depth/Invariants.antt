use Rattle.std.proofs.Common.{◌≡◌, ◌≤◌, ◌^◌, ◌+◌, ◌*◌, min, max, drop}
use Rattle.value_model.specs.Plain as spec
use Rattle.values.specs.Seen.{of_fields, of_entries, of_items}
use Rattle.values.proofs.measures.+depth.Given as goal

abbrev pub invariant-deepest_field-loop-f : goal.invariant-deepest_field-loop-f
invariant-deepest_field-loop-f l = let rest = of_fields (drop l.f-index l.fields) in record {
  most : min (max l.most (spec.deepest rest)) (2 ^ 63) ≡ min (spec.deepest (of_fields l.fields)) (2 ^ 63);
  rest : spec.values_in rest ≤ spec.values_in (of_fields l.fields);
  capped : l.most ≤ 2 ^ 63;
}

abbrev pub invariant-deepest_item-loop-v : goal.invariant-deepest_item-loop-v
invariant-deepest_item-loop-v l = let rest = of_items (drop l.v-index l.items) in record {
  most : min (max l.most (spec.deepest rest)) (2 ^ 63) ≡ min (spec.deepest (of_items l.items)) (2 ^ 63);
  rest : spec.values_in rest ≤ spec.values_in (of_items l.items);
  capped : l.most ≤ 2 ^ 63;
}

abbrev pub invariant-deepest_entry-loop-e : goal.invariant-deepest_entry-loop-e
invariant-deepest_entry-loop-e l = let rest = of_entries (drop l.e-index l.entries) in record {
  most : min (max l.most (spec.deepest rest)) (2 ^ 63) ≡ min (spec.deepest (of_entries l.entries)) (2 ^ 63);
  rest : spec.values_in rest ≤ spec.values_in (of_entries l.entries);
  capped : l.most ≤ 2 ^ 63;
}

abbrev pub decreases-depth : goal.decreases-depth
decreases-depth l = 2 * spec.values l.v.now

abbrev pub decreases-deepest_field : goal.decreases-deepest_field
decreases-deepest_field l = 2 * spec.values_in (of_fields l.fields.now) + 1

abbrev pub decreases-deepest_item : goal.decreases-deepest_item
decreases-deepest_item l = 2 * spec.values_in (of_items l.items.now) + 1

abbrev pub decreases-deepest_entry : goal.decreases-deepest_entry
decreases-deepest_entry l = 2 * spec.values_in (of_entries l.entries.now) + 1
