use Rattle.std.proofs.Common.{◌≡◌, ◌≤◌, ◌^◌, ◌+◌, min, drop}
use Rattle.value_model.specs.Plain as spec
use Rattle.value_model.specs.declared.kind.Kind.TheVariants as kind
use Rattle.values.specs.Seen.{of_members}
use Rattle.values.proofs.measures.members_weight.Given as goal

abbrev pub invariant-loop-k : goal.invariant-loop-k
invariant-loop-k l = record {
  total : min (l.total + spec.weights kind.Set (of_members (drop l.k-index l.members))) (2 ^ 63) ≡ min (spec.weights kind.Set (of_members l.members)) (2 ^ 63);
  capped : l.total ≤ 2 ^ 63;
}
