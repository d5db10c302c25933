use Rattle.std.proofs.Common.{◌≡◌, ◌≤◌, ◌-◌, drop, length}
use Rattle.patch_meaning.specs.Applying as spec
use Rattle.plain_apply.proofs.apply.applied_from.Given as goal

abbrev pub invariant-loop-at : goal.invariant-loop-at
invariant-loop-at l = record {
  so_far : spec.applied_from l.at (drop l.at l.list) l.here ≡ spec.applied_from l.fn.from (drop l.fn.from l.list) l.fn.v;
  within : l.at ≤ length l.list;
}

abbrev pub decreases-loop-at : goal.decreases-loop-at
decreases-loop-at l = length l.list - l.at
