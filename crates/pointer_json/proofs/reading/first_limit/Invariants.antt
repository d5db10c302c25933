use Rattle.std.proofs.Common.{◌≡◌, drop}
use Rattle.host_protocol_spec.specs.Pointers.{first_limit}
use Rattle.pointer_json.proofs.reading.first_limit.Given as goal

abbrev pub invariant-loop-pointer : goal.invariant-loop-pointer
invariant-loop-pointer l = first_limit (drop l.pointer-index l.list) ≡ first_limit l.list
