use Rattle.std.proofs.Common.{◌≡◌, ◌+◌, drop, map}
use Rattle.guards_views_spec.specs.Views as spec
use Rattle.derived_views.specs.Seen.{of_weight}
use Rattle.derived_views.proofs.weights.sum.Given as goal

abbrev pub invariant-loop-e : goal.invariant-loop-e
invariant-loop-e l = l.total + spec.total (map of_weight (drop l.e-index l.entries)) ≡ spec.total (map of_weight l.entries)
