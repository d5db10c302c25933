use Rattle.std.proofs.Common.{◌≡◌, ◌≤◌, ◌-◌, length, drop}
use Rattle.values.specs.Seen.{of_members}
use Rattle.value_measures.specs.Same.{same_entries}
use Rattle.value_measures.proofs.same.same_members.Given as goal

abbrev pub invariant-loop-i : goal.invariant-loop-i
invariant-loop-i l = record {
  same : same_entries (of_members (drop l.i l.a)) (of_members (drop l.i l.b)) ≡ same_entries (of_members l.a) (of_members l.b);
  in_a : l.i ≤ length l.a;
  in_b : l.i ≤ length l.b;
}

abbrev pub decreases-loop-i : goal.decreases-loop-i
decreases-loop-i l = length l.a - l.i
