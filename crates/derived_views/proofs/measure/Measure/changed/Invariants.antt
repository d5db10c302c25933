use Rattle.std.proofs.Common.{◌≡◌, drop, map, IsTrue}
use Rattle.std.specs.FinMap.Entries.{is_sorted}
use Rattle.value_model.specs.Order.{key_cmp}
use Rattle.guards_views_spec.specs.Views as spec
use Rattle.derived_views.specs.Accepted.{ChangesAccepted}
use Rattle.derived_views.specs.Seen.{of_weight}
use Rattle.derived_views.proofs.measure.Measure.changed.Given as goal

abbrev pub invariant-loop-change : goal.invariant-loop-change
invariant-loop-change g l = let rest = drop l.change-index l.changed in record {
  done : spec.updated l.self.weigh rest (map of_weight l.entries.items) ≡ spec.updated l.self.weigh l.changed (map of_weight l.initial.entries.items);
  sorted : IsTrue (is_sorted key_cmp (map of_weight l.entries.items));
  accepted : ChangesAccepted rest;
}
