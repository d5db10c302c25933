use Rattle.std.proofs.Common.{◌≡◌, ◌++◌, drop, map}
use Rattle.value_model.specs.declared.kind.Kind.TheVariants as kind
use Rattle.values.specs.Seen.{of_entries}
use Rattle.guards_views_spec.specs.Views as spec
use Rattle.derived_views.specs.Accepted.{AllAccepted}
use Rattle.derived_views.specs.Seen.{of_weight}
use Rattle.derived_views.proofs.measure.Measure.of_entries.Given as goal

abbrev pub invariant-loop-e : goal.invariant-loop-e
invariant-loop-e g l = let rest = of_entries (drop l.e-index l.entries) in record {
  out : map of_weight l.out.items ++ spec.weights_in l.self.weigh kind.Map l.e-index rest ≡ spec.weights_in l.self.weigh kind.Map 0 (of_entries l.entries);
  accepted : AllAccepted rest;
}
