use Rattle.std.proofs.Common.{◌≡◌, ◌≤◌, ◌+◌, ◌*◌, drop}
use Rattle.value_model.specs.declared.kind.Kind.TheVariants as kind
use Rattle.values.specs.Seen.{of_fields, of_entries, of_items}
use Rattle.guards_views_spec.specs.Shapes as spec
use Rattle.shapes.specs.Seen.{of_names}
use Rattle.shapes.proofs.meeting.+meets.Given as goal

abbrev pub decreases-meets : goal.decreases-meets
decreases-meets l = 5 * spec.shapes l.shape.now

abbrev pub decreases-is_list : goal.decreases-is_list
decreases-is_list l = 5 * spec.shapes l.shape.now + 2

abbrev pub decreases-is_table : goal.decreases-is_table
decreases-is_table l = 5 * spec.shapes l.shape.now + 2

abbrev pub decreases-is_map : goal.decreases-is_map
decreases-is_map l = 5 * spec.shapes l.shape.now + 2

abbrev pub decreases-first_item : goal.decreases-first_item
decreases-first_item l = 5 * spec.shapes l.shape.now + 1

abbrev pub decreases-first_field : goal.decreases-first_field
decreases-first_field l = 5 * spec.shapes l.shape.now + 1

abbrev pub decreases-first_entry : goal.decreases-first_entry
decreases-first_entry l = 5 * spec.shapes l.shape.now + 1

abbrev pub decreases-any_met : goal.decreases-any_met
decreases-any_met l = 5 * spec.shapes_among (spec.choices l.choices.now) + 1

abbrev pub decreases-judged : goal.decreases-judged
decreases-judged l = 5 * (spec.shapes_named (of_names l.must.now) + spec.shapes_named (of_names l.may.now)) + 1

abbrev pub decreases-first_judged : goal.decreases-first_judged
decreases-first_judged l = 5 * (spec.shapes_named (of_names l.must.now) + spec.shapes_named (of_names l.may.now)) + 2

abbrev pub decreases-first_wrong : goal.decreases-first_wrong
decreases-first_wrong l = 5 * (spec.shapes_named (of_names l.must.now) + spec.shapes_named (of_names l.may.now)) + 3

abbrev pub decreases-is_object : goal.decreases-is_object
decreases-is_object l = 5 * (spec.shapes_named (of_names l.must.now) + spec.shapes_named (of_names l.may.now)) + 4

abbrev pub invariant-any_met-loop-shape : goal.invariant-any_met-loop-shape
invariant-any_met-loop-shape l = let rest = spec.choices (drop l.shape-index l.choices) in record {
  met : spec.any_met rest l.v ≡ spec.any_met (spec.choices l.choices) l.v;
  rest : spec.shapes_among rest ≤ spec.shapes_among (spec.choices l.choices);
}

abbrev pub invariant-first_item-loop-i : goal.invariant-first_item-loop-i
invariant-first_item-loop-i l = spec.first_broken (spec.broken l.shape) kind.List l.i (of_items (drop l.i l.items)) ≡ spec.first_broken (spec.broken l.shape) kind.List 0 (of_items l.items)

abbrev pub invariant-first_field-loop-f : goal.invariant-first_field-loop-f
invariant-first_field-loop-f l = spec.first_broken (spec.broken l.shape) kind.Obj l.f-index (of_fields (drop l.f-index l.fields)) ≡ spec.first_broken (spec.broken l.shape) kind.Obj 0 (of_fields l.fields)

abbrev pub invariant-first_entry-loop-e : goal.invariant-first_entry-loop-e
invariant-first_entry-loop-e l = spec.first_broken (spec.broken l.shape) kind.Map l.e-index (of_entries (drop l.e-index l.entries)) ≡ spec.first_broken (spec.broken l.shape) kind.Map 0 (of_entries l.entries)

abbrev pub invariant-first_judged-loop-f : goal.invariant-first_judged-loop-f
invariant-first_judged-loop-f l = spec.first_wrong (spec.checks (of_names l.must)) (spec.checks (of_names l.may)) (of_fields (drop l.f-index l.fields)) ≡ spec.first_wrong (spec.checks (of_names l.must)) (spec.checks (of_names l.may)) (of_fields l.fields)
