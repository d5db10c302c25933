use Rattle.std.proofs.Common.{◌≡◌, ◌≤◌, ◌^◌, ◌+◌, min, drop}
use Rattle.value_measures.specs.Weights.{path_weight}
use Rattle.value_measures.proofs.weights.path_weight.Given as goal

abbrev pub invariant-loop-step : goal.invariant-loop-step
invariant-loop-step l = record {
  total : min (l.total + path_weight (drop l.step-index l.step-items)) (2 ^ 63) ≡ min (path_weight l.path) (2 ^ 63);
  capped : l.total ≤ 2 ^ 63;
}
