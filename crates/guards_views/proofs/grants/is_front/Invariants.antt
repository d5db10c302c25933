use Rattle.std.proofs.Common.{◌≡◌, drop}
use Rattle.guards_views_spec.specs.Grants as spec
use Rattle.guards_views.proofs.grants.is_front.Given as goal

abbrev pub invariant-loop-step : goal.invariant-loop-step
invariant-loop-step l = spec.is_front (drop l.step-index l.path) l.rest ≡ spec.is_front l.path l.place
