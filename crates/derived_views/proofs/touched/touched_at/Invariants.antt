use Rattle.std.proofs.Common.{◌≡◌, drop, map, IsTrue}
use Rattle.std.specs.FinMap.Entries.{is_sorted}
use Rattle.value_model.specs.Order.{key_cmp}
use Rattle.values.specs.Seen.{of_member}
use Rattle.guards_views_spec.specs.Views as spec
use Rattle.derived_views.proofs.touched.touched_at.Given as goal

abbrev pub invariant-loop-p : goal.invariant-loop-p
invariant-loop-p l = record {
  rest : spec.touched_from l.path l.keys.items (drop l.p-index l.patches) ≡ spec.touched l.path l.patches;
  sorted : IsTrue (is_sorted key_cmp (map of_member l.keys.items));
}
