use Rattle.std.proofs.Common.{◌≡◌, ◌≤◌, ◌^◌, ◌+◌, min, drop}
use Rattle.host_machine.specs.Differences.{patches_weight}
use Rattle.host_engine.proofs.pairs.patches_weight.Given as goal

abbrev pub invariant-loop-patch : goal.invariant-loop-patch
invariant-loop-patch l = record {
  total : min (l.total + patches_weight (drop l.patch-index l.patch-items)) (2 ^ 63) ≡ min (patches_weight l.patches) (2 ^ 63);
  capped : l.total ≤ 2 ^ 63;
}
