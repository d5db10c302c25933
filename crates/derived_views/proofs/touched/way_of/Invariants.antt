use Rattle.std.proofs.Common.{◌≡◌, drop}
use Rattle.guards_views_spec.specs.Views as spec
use Rattle.derived_views.proofs.touched.way_of.Given as goal

abbrev pub invariant-loop-step : goal.invariant-loop-step
invariant-loop-step l = spec.reach (drop l.step-index l.path) l.rest ≡ spec.reach l.path l.place
