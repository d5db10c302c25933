use Rattle.std.proofs.Common.{drop}
use Rattle.host_protocol_spec.specs.Pointers.{operation_walked}
use Rattle.value_json.proofs.Steps.{Along}
use Rattle.pointer_json.proofs.reading.operations_in.Given as goal

abbrev pub invariant-loop-item : goal.invariant-loop-item
invariant-loop-item l = Along operation_walked l.out.items (drop l.item-index l.items) l.items
