use Rattle.std.proofs.Common.{◌≡◌, ◌≤◌, ◌^◌, ◌+◌, min, map, drop}
use Rattle.value_model.specs.Plain.{entries, weights}
use Rattle.value_model.specs.declared.kind.Kind.TheVariants as kind
use Rattle.host_engine.specs.Kept.{of_field}
use Rattle.host_engine.proofs.fields.fields_weight.Given as goal

abbrev pub invariant-loop-f : goal.invariant-loop-f
invariant-loop-f l = record {
  total : min (l.total + weights kind.Obj (entries (map of_field (drop l.f-index l.fields)))) (2 ^ 63) ≡ min (weights kind.Obj (entries (map of_field l.fields))) (2 ^ 63);
  capped : l.total ≤ 2 ^ 63;
}
