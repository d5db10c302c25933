use Rattle.std.proofs.Common.{◌≡◌, ◌≤◌, ◌^◌, ◌+◌, min, drop}
use Rattle.value_measures.specs.Weights.{patches_weight}
use Rattle.value_measures.proofs.weights.patches_weight.Given as goal

abbrev pub invariant-loop-patch : goal.invariant-loop-patch
invariant-loop-patch l = record {
  total : min (l.total + patches_weight (drop l.patch-index l.patch-items)) (2 ^ 63) ≡ min (patches_weight l.patches) (2 ^ 63);
  capped : l.total ≤ 2 ^ 63;
}
