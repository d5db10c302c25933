use Rattle.std.proofs.Common.{◌≡◌, drop}
use Rattle.values.specs.Seen.{of_members}
use Rattle.guards_views_spec.specs.Shapes as spec
use Rattle.shapes.proofs.primitives.all_simple.Given as goal

abbrev pub invariant-loop-k : goal.invariant-loop-k
invariant-loop-k l = spec.all_simple l.simple (of_members (drop l.k-index l.members)) ≡ spec.all_simple l.simple (of_members l.members)
