use Rattle.std.proofs.Common.{◌≡◌, ◌≤◌, ◌^◌, ◌+◌, ◌*◌, min, drop}
use Rattle.value_model.specs.Plain as spec
use Rattle.value_model.specs.declared.kind.Kind.TheVariants as kind
use Rattle.values.specs.Seen.{of_fields, of_entries, of_items}
use Rattle.values.proofs.measures.+weight.Given as goal

abbrev pub invariant-fields_weight-loop-f : goal.invariant-fields_weight-loop-f
invariant-fields_weight-loop-f l = let rest = of_fields (drop l.f-index l.fields) in record {
  total : min (l.total + spec.weights kind.Obj rest) (2 ^ 63) ≡ min (spec.weights kind.Obj (of_fields l.fields)) (2 ^ 63);
  rest : spec.values_in rest ≤ spec.values_in (of_fields l.fields);
  capped : l.total ≤ 2 ^ 63;
}

abbrev pub invariant-items_weight-loop-v : goal.invariant-items_weight-loop-v
invariant-items_weight-loop-v l = let rest = of_items (drop l.v-index l.items) in record {
  total : min (l.total + spec.weights kind.List rest) (2 ^ 63) ≡ min (spec.weights kind.List (of_items l.items)) (2 ^ 63);
  rest : spec.values_in rest ≤ spec.values_in (of_items l.items);
  capped : l.total ≤ 2 ^ 63;
}

abbrev pub invariant-entries_weight-loop-e : goal.invariant-entries_weight-loop-e
invariant-entries_weight-loop-e l = let rest = of_entries (drop l.e-index l.entries) in record {
  total : min (l.total + spec.weights kind.Map rest) (2 ^ 63) ≡ min (spec.weights kind.Map (of_entries l.entries)) (2 ^ 63);
  rest : spec.values_in rest ≤ spec.values_in (of_entries l.entries);
  capped : l.total ≤ 2 ^ 63;
}

abbrev pub decreases-weight : goal.decreases-weight
decreases-weight l = 2 * spec.values l.v.now

abbrev pub decreases-fields_weight : goal.decreases-fields_weight
decreases-fields_weight l = 2 * spec.values_in (of_fields l.fields.now) + 1

abbrev pub decreases-items_weight : goal.decreases-items_weight
decreases-items_weight l = 2 * spec.values_in (of_items l.items.now) + 1

abbrev pub decreases-entries_weight : goal.decreases-entries_weight
decreases-entries_weight l = 2 * spec.values_in (of_entries l.entries.now) + 1
