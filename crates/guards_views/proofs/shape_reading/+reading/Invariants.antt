use Rattle.std.proofs.Common.{◌≡◌, ◌≤◌, ◌+◌, ◌*◌, ◌++◌, drop, map}
use Rattle.value_model.specs.Plain.{values, values_in}
use Rattle.values.specs.Seen.{of_fields, of_items}
use Rattle.guards_views_spec.specs.Reading as spec
use Rattle.shapes.specs.Seen.{of_named}
use Rattle.guards_views.proofs.Ahead.{ahead_names, ahead_choices}
use Rattle.guards_views.proofs.shape_reading.+reading.Given as goal

abbrev pub decreases-read_shape : goal.decreases-read_shape
decreases-read_shape l = 8 * values l.v.now

abbrev pub decreases-boxed : goal.decreases-boxed
decreases-boxed l = 8 * values l.v.now + 1

abbrev pub decreases-list : goal.decreases-list
decreases-list l = 8 * values l.v.now + 2

abbrev pub decreases-table : goal.decreases-table
decreases-table l = 8 * values l.v.now + 2

abbrev pub decreases-map_of : goal.decreases-map_of
decreases-map_of l = 8 * values l.v.now + 2

abbrev pub decreases-names : goal.decreases-names
decreases-names l = 8 * values l.v.now + 1

abbrev pub decreases-names_in : goal.decreases-names_in
decreases-names_in l = 8 * values_in (of_fields l.fields.now) + 1

abbrev pub decreases-required : goal.decreases-required
decreases-required l = 8 * values l.v.now + 2

abbrev pub decreases-any_of : goal.decreases-any_of
decreases-any_of l = 8 * values l.v.now + 3

abbrev pub decreases-some_of : goal.decreases-some_of
decreases-some_of l = 8 * values_in (of_items l.items.now) + 2

abbrev pub decreases-choices_in : goal.decreases-choices_in
decreases-choices_in l = 8 * values_in (of_items l.items.now) + 1

abbrev pub decreases-alone : goal.decreases-alone
decreases-alone l = 8 * values l.f.now.value + 4

abbrev pub decreases-both : goal.decreases-both
decreases-both l = 8 * (values l.must.now + values l.may.now) + 2

abbrev pub decreases-together : goal.decreases-together
decreases-together l = 8 * (values l.f.now.value + values l.g.now.value) + 3

abbrev pub decreases-from_fields : goal.decreases-from_fields
decreases-from_fields l = 8 * values_in (of_fields l.fields.now) + 5

abbrev pub invariant-names_in-loop-f : goal.invariant-names_in-loop-f
invariant-names_in-loop-f l = let rest = drop l.f-index l.fields in record {
  read : ahead_names (map of_named l.out.items) (spec.names_in (of_fields rest)) ≡ spec.names_in (of_fields l.fields);
  keys : map (λ n. n.name) l.out.items ++ map (λ f. f.key) rest ≡ map (λ f. f.key) l.fields;
  rest : values_in (of_fields rest) ≤ values_in (of_fields l.fields);
}

abbrev pub invariant-choices_in-loop-v : goal.invariant-choices_in-loop-v
invariant-choices_in-loop-v l = let rest = drop l.v-index l.items in record {
  read : ahead_choices l.out.items (spec.choices_in (of_items rest)) ≡ spec.choices_in (of_items l.items);
  rest : values_in (of_items rest) ≤ values_in (of_items l.items);
}
