use Rattle.std.proofs.Common.{◌≡◌, drop}
use Rattle.serde_json.specs.View.{items_view}
use Rattle.value_json_spec.specs.Reading.{are_primitive}
use Rattle.value_json.proofs.walk.are_primitive.Given as goal

abbrev pub invariant-loop-item : goal.invariant-loop-item
invariant-loop-item l = are_primitive (items_view (drop l.item-index l.items)) ≡ are_primitive (items_view l.items)
