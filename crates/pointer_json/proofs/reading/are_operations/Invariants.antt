use Rattle.std.proofs.Common.{◌≡◌, drop}
use Rattle.serde_json.specs.View.{items_view}
use Rattle.host_protocol_spec.specs.Pointers.{are_operations}
use Rattle.pointer_json.proofs.reading.are_operations.Given as goal

abbrev pub invariant-loop-item : goal.invariant-loop-item
invariant-loop-item l = are_operations (items_view (drop l.item-index l.items)) ≡ are_operations (items_view l.items)
