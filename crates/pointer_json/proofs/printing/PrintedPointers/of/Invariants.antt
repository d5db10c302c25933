use Rattle.std.proofs.Common.{◌≡◌, ◌++◌, map, drop}
use Rattle.host_protocol_spec.specs.Pointers.{operation_data}
use Rattle.pointer_json.specs.Spelled.{spelled_data}
use Rattle.pointer_json.proofs.printing.PrintedPointers.of.Given as goal

abbrev pub invariant-loop-pointer : goal.invariant-loop-pointer
invariant-loop-pointer l = map spelled_data l.list.items ++ map operation_data (drop l.pointer-index l.pointers) ≡ map operation_data l.pointers
