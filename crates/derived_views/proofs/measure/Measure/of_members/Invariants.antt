use Rattle.std.proofs.Common.{◌≡◌, ◌++◌, drop, map}
use Rattle.value_model.specs.declared.kind.Kind.TheVariants as kind
use Rattle.values.specs.Seen.{of_members}
use Rattle.guards_views_spec.specs.Views as spec
use Rattle.derived_views.specs.Accepted.{AllAccepted}
use Rattle.derived_views.specs.Seen.{of_weight}
use Rattle.derived_views.proofs.measure.Measure.of_members.Given as goal

abbrev pub invariant-loop-k : goal.invariant-loop-k
invariant-loop-k g l = let rest = of_members (drop l.k-index l.members) in record {
  out : map of_weight l.out.items ++ spec.weights_in l.self.weigh kind.Set l.k-index rest ≡ spec.weights_in l.self.weigh kind.Set 0 (of_members l.members);
  accepted : AllAccepted rest;
}
