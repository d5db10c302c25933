use Rattle.std.proofs.Common.{◌≡◌, ◌++◌, drop, map}
use Rattle.value_model.specs.declared.kind.Kind.TheVariants as kind
use Rattle.values.specs.Seen.{of_fields}
use Rattle.guards_views_spec.specs.Views as spec
use Rattle.derived_views.specs.Accepted.{AllAccepted}
use Rattle.derived_views.specs.Seen.{of_weight}
use Rattle.derived_views.proofs.measure.Measure.of_fields.Given as goal

abbrev pub invariant-loop-f : goal.invariant-loop-f
invariant-loop-f g l = let rest = of_fields (drop l.f-index l.fields) in record {
  out : map of_weight l.out.items ++ spec.weights_in l.self.weigh kind.Obj l.f-index rest ≡ spec.weights_in l.self.weigh kind.Obj 0 (of_fields l.fields);
  accepted : AllAccepted rest;
}
