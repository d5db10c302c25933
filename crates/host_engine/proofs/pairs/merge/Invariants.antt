use Rattle.std.proofs.Common.{◌≡◌, ◌≤◌, ◌+◌, ◌-◌, ◌++◌, map, drop, length}
use Rattle.std.specs.Prelude.{IsTrue}
use Rattle.std.specs.FinMap.Entries.{is_sorted}
use Rattle.value_model.specs.Order.{key_cmp}
use Rattle.host_machine.specs.Differences.{differences}
use Rattle.host_engine.specs.Kept.{of_field}
use Rattle.host_engine.proofs.pairs.merge.Given as goal

abbrev pub invariant-loop-old_at : goal.invariant-loop-old_at
invariant-loop-old_at l = record {
  patches : l.list.items ++ differences (map of_field (drop l.old_at l.old)) (map of_field (drop l.new_at l.new)) ≡ differences (map of_field l.old) (map of_field l.new);
  old_in : l.old_at ≤ length l.old;
  new_in : l.new_at ≤ length l.new;
  old_rest : IsTrue (is_sorted key_cmp (map of_field (drop l.old_at l.old)));
  new_rest : IsTrue (is_sorted key_cmp (map of_field (drop l.new_at l.new)));
}

abbrev pub decreases-loop-old_at : goal.decreases-loop-old_at
decreases-loop-old_at l = (length l.old - l.old_at) + (length l.new - l.new_at)
