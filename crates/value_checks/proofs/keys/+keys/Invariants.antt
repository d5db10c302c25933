use Rattle.std.proofs.Common.{◌≡◌, ◌≤◌, ◌+◌, ◌*◌, ◌||◌, drop}
use Rattle.value_model.specs.Limits.{any_long_key, any_reserved_key}
use Rattle.value_model.specs.Plain.{values, values_in}
use Rattle.value_model.specs.Well.{all_well}
use Rattle.value_model.specs.declared.kind.Kind.TheVariants as kind
use Rattle.values.specs.Seen.{of_fields, of_entries, of_items}
use Rattle.value_checks.proofs.keys.+keys.Given as goal

abbrev pub invariant-in_fields-loop-f : goal.invariant-in_fields-loop-f
invariant-in_fields-loop-f l = let rest = of_fields (drop l.f-index l.fields) in record {
  long : (l.long || any_long_key rest) ≡ any_long_key (of_fields l.fields);
  reserved : (l.reserved || any_reserved_key kind.Obj rest) ≡ any_reserved_key kind.Obj (of_fields l.fields);
  well : all_well rest ≡ all_well (of_fields l.fields);
  rest : values_in rest ≤ values_in (of_fields l.fields);
}

abbrev pub decreases-in_fields : goal.decreases-in_fields
decreases-in_fields l = 2 * values_in (of_fields l.fields.now) + 1

abbrev pub invariant-in_items-loop-v : goal.invariant-in_items-loop-v
invariant-in_items-loop-v l = let rest = of_items (drop l.v-index l.items) in record {
  long : (l.long || any_long_key rest) ≡ any_long_key (of_items l.items);
  reserved : (l.reserved || any_reserved_key kind.List rest) ≡ any_reserved_key kind.List (of_items l.items);
  well : all_well rest ≡ all_well (of_items l.items);
  rest : values_in rest ≤ values_in (of_items l.items);
}

abbrev pub decreases-in_items : goal.decreases-in_items
decreases-in_items l = 2 * values_in (of_items l.items.now) + 1

abbrev pub invariant-in_entries-loop-e : goal.invariant-in_entries-loop-e
invariant-in_entries-loop-e l = let rest = of_entries (drop l.e-index l.entries) in record {
  long : (l.long || any_long_key rest) ≡ any_long_key (of_entries l.entries);
  reserved : (l.reserved || any_reserved_key kind.Map rest) ≡ any_reserved_key kind.Map (of_entries l.entries);
  well : all_well rest ≡ all_well (of_entries l.entries);
  rest : values_in rest ≤ values_in (of_entries l.entries);
}

abbrev pub decreases-in_entries : goal.decreases-in_entries
decreases-in_entries l = 2 * values_in (of_entries l.entries.now) + 1

abbrev pub decreases-key_faults : goal.decreases-key_faults
decreases-key_faults l = 2 * values l.v.now
