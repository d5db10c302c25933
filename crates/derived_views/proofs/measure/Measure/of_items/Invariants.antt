use Rattle.std.proofs.Common.{◌≡◌, ◌++◌, drop, map}
use Rattle.value_model.specs.declared.kind.Kind.TheVariants as kind
use Rattle.values.specs.Seen.{of_items}
use Rattle.guards_views_spec.specs.Views as spec
use Rattle.derived_views.specs.Accepted.{AllAccepted}
use Rattle.derived_views.specs.Seen.{of_weight}
use Rattle.derived_views.proofs.measure.Measure.of_items.Given as goal

abbrev pub invariant-loop-i : goal.invariant-loop-i
invariant-loop-i g l = let rest = of_items (drop l.i l.items) in record {
  out : map of_weight l.out.items ++ spec.weights_in l.self.weigh kind.List l.i rest ≡ spec.weights_in l.self.weigh kind.List 0 (of_items l.items);
  accepted : AllAccepted rest;
}
