use Rattle.std.proofs.Common.{map, drop}
use Rattle.serde.specs.Event.{Log}
use Rattle.serde_json.specs.Events.{SendsItems}
use Rattle.serde_json.specs.View.{items_of}
use Rattle.value_json_spec.specs.Printing.{key_data}
use Rattle.value_json.proofs.sending_patches.send_steps.Given as goal

-- whatever ends it well from here ends it well from the start
abbrev pub invariant-loop-key : goal.invariant-loop-key
invariant-loop-key g l = (end : Log) → SendsItems (items_of (map key_data (drop l.key-index l.steps))) (g.S.Serializer.written l.out) end → SendsItems (items_of (map key_data l.steps)) (g.S.Serializer.written l.initial.out) end
