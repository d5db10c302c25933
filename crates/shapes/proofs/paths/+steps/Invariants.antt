use Rattle.std.proofs.Common.{◌+◌, ◌*◌}
use Rattle.guards_views_spec.specs.Shapes as spec
use Rattle.shapes.specs.Seen.{of_names}
use Rattle.shapes.proofs.paths.+steps.Given as goal

abbrev pub decreases-steps : goal.decreases-steps
decreases-steps l = 6 * spec.shapes l.shape.now

abbrev pub decreases-below : goal.decreases-below
decreases-below l = 6 * spec.shapes l.shape.now + 1

abbrev pub decreases-in_field : goal.decreases-in_field
decreases-in_field l = 6 * spec.shapes l.shape.now + 2

abbrev pub decreases-in_fields : goal.decreases-in_fields
decreases-in_fields l = 6 * spec.shapes l.shape.now + 3

abbrev pub decreases-in_entries : goal.decreases-in_entries
decreases-in_entries l = 6 * spec.shapes l.shape.now + 3

abbrev pub decreases-in_items : goal.decreases-in_items
decreases-in_items l = 6 * spec.shapes l.shape.now + 3

abbrev pub decreases-in_list : goal.decreases-in_list
decreases-in_list l = 6 * spec.shapes l.shape.now + 4

abbrev pub decreases-in_table : goal.decreases-in_table
decreases-in_table l = 6 * spec.shapes l.shape.now + 4

abbrev pub decreases-in_map : goal.decreases-in_map
decreases-in_map l = 6 * spec.shapes l.shape.now + 4

abbrev pub decreases-in_names : goal.decreases-in_names
decreases-in_names l = 6 * (spec.shapes_named (of_names l.must.now) + spec.shapes_named (of_names l.may.now)) + 3

abbrev pub decreases-in_object : goal.decreases-in_object
decreases-in_object l = 6 * (spec.shapes_named (of_names l.must.now) + spec.shapes_named (of_names l.may.now)) + 4
