use Rattle.std.proofs.Common.{◌≡◌, drop, map}
use Rattle.guards_views_spec.specs.Grants as spec
use Rattle.guards_views.specs.Given.{of_grant}
use Rattle.guards_views.proofs.grants.find_in.Given as goal

abbrev pub invariant-loop-g : goal.invariant-loop-g
invariant-loop-g l = spec.grant_named l.name (map of_grant (drop l.g-index l.list)) ≡ spec.grant_named l.name (map of_grant l.list)
