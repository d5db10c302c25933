use Rattle.std.proofs.Common.{◌≡◌, drop}
use Rattle.value_model.specs.Places as spec
use Rattle.value_checks.proofs.places.at.Given as goal

abbrev pub invariant-loop-step : goal.invariant-loop-step
invariant-loop-step l = spec.at (drop l.step-index l.step-items) l.here ≡ spec.at l.path l.fn.v
