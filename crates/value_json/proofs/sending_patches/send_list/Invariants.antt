use Rattle.std.proofs.Common.{map, drop}
use Rattle.serde.specs.Event.{Log}
use Rattle.serde_json.specs.Events.{SendsItems}
use Rattle.serde_json.specs.View.{items_of}
use Rattle.value_json_spec.specs.Patches.{patch_data}
use Rattle.value_json.proofs.sending_patches.send_list.Given as goal

-- whatever ends it well from here ends it well from the start
abbrev pub invariant-loop-patch : goal.invariant-loop-patch
invariant-loop-patch g l = (end : Log) → SendsItems (items_of (map patch_data (drop l.patch-index l.patches))) (g.S.Serializer.written l.out) end → SendsItems (items_of (map patch_data l.patches)) (g.S.Serializer.written l.initial.out) end
