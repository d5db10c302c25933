use Rattle.std.proofs.Common.{◌≡◌, drop, map}
use Rattle.values.specs.Seen.{of_field}
use Rattle.guards_views_spec.specs.Shapes as spec
use Rattle.shapes.specs.Seen.{of_names}
use Rattle.shapes.proofs.names.first_missing.Given as goal

abbrev pub invariant-loop-n : goal.invariant-loop-n
invariant-loop-n l = spec.first_missing (spec.checks (of_names (drop l.n-index l.must))) (map of_field l.fields) ≡ spec.first_missing (spec.checks (of_names l.must)) (map of_field l.fields)
