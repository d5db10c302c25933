use Rattle.std.proofs.Common.{◌≡◌, ◌++◌, [], map, drop}
use Rattle.std.specs.Prelude.{IsTrue}
use Rattle.std.specs.FinMap.Entries.{is_sorted}
use Rattle.value_model.specs.Order.{key_cmp}
use Rattle.host_machine.specs.Differences.{differences}
use Rattle.host_engine.specs.Kept.{of_field}
use Rattle.host_engine.proofs.pairs.push_added.Given as goal

abbrev pub invariant-loop-f : goal.invariant-loop-f
invariant-loop-f l = record {
  patches : l.list.items ++ differences [] (map of_field (drop l.f-index l.new)) ≡ l.initial.list.items ++ differences [] (map of_field l.new);
  sorted : IsTrue (is_sorted key_cmp (map of_field (drop l.f-index l.new)));
}
