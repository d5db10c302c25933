use Rattle.std.proofs.Common.{◌≡◌, ◌≤◌, ◌+◌, ◌-◌, ◌*◌, length, drop}
use Rattle.value_model.specs.Plain.{values, values_in}
use Rattle.values.specs.Seen.{of_fields, of_entries, of_items}
use Rattle.value_measures.specs.Same.{same_entries}
use Rattle.value_measures.proofs.same.+same.Given as goal

abbrev pub decreases-same : goal.decreases-same
decreases-same l = 3 * values l.a.now

abbrev pub decreases-is_object : goal.decreases-is_object
decreases-is_object l = 3 * values_in (of_fields l.fields.now) + 2

abbrev pub decreases-is_list : goal.decreases-is_list
decreases-is_list l = 3 * values_in (of_items l.items.now) + 2

abbrev pub decreases-is_map : goal.decreases-is_map
decreases-is_map l = 3 * values_in (of_entries l.entries.now) + 2

abbrev pub decreases-same_fields : goal.decreases-same_fields
decreases-same_fields l = 3 * values_in (of_fields l.a.now) + 1

abbrev pub decreases-same_items : goal.decreases-same_items
decreases-same_items l = 3 * values_in (of_items l.a.now) + 1

abbrev pub decreases-same_pairs : goal.decreases-same_pairs
decreases-same_pairs l = 3 * values_in (of_entries l.a.now) + 1

abbrev pub invariant-same_fields-loop-i : goal.invariant-same_fields-loop-i
invariant-same_fields-loop-i l = record {
  same : same_entries (of_fields (drop l.i l.a)) (of_fields (drop l.i l.b)) ≡ same_entries (of_fields l.a) (of_fields l.b);
  fewer : values_in (of_fields (drop l.i l.a)) ≤ values_in (of_fields l.a);
  in_a : l.i ≤ length l.a;
  in_b : l.i ≤ length l.b;
}

abbrev pub invariant-same_items-loop-i : goal.invariant-same_items-loop-i
invariant-same_items-loop-i l = record {
  same : same_entries (of_items (drop l.i l.a)) (of_items (drop l.i l.b)) ≡ same_entries (of_items l.a) (of_items l.b);
  fewer : values_in (of_items (drop l.i l.a)) ≤ values_in (of_items l.a);
  in_a : l.i ≤ length l.a;
  in_b : l.i ≤ length l.b;
}

abbrev pub invariant-same_pairs-loop-i : goal.invariant-same_pairs-loop-i
invariant-same_pairs-loop-i l = record {
  same : same_entries (of_entries (drop l.i l.a)) (of_entries (drop l.i l.b)) ≡ same_entries (of_entries l.a) (of_entries l.b);
  fewer : values_in (of_entries (drop l.i l.a)) ≤ values_in (of_entries l.a);
  in_a : l.i ≤ length l.a;
  in_b : l.i ≤ length l.b;
}

abbrev pub decreases-same_fields-loop-i : goal.decreases-same_fields-loop-i
decreases-same_fields-loop-i l = length l.a - l.i

abbrev pub decreases-same_items-loop-i : goal.decreases-same_items-loop-i
decreases-same_items-loop-i l = length l.a - l.i

abbrev pub decreases-same_pairs-loop-i : goal.decreases-same_pairs-loop-i
decreases-same_pairs-loop-i l = length l.a - l.i
