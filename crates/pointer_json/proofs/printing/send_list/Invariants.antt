use Rattle.std.proofs.Common.{map, drop}
use Rattle.serde.specs.Event.{Log}
use Rattle.serde_json.specs.Events.{SendsItems}
use Rattle.serde_json.specs.View.{items_of}
use Rattle.pointer_json.specs.Spelled.{spelled_data}
use Rattle.pointer_json.proofs.printing.send_list.Given as goal

-- whatever ends it well from here ends it well from the start
abbrev pub invariant-loop-spelled : goal.invariant-loop-spelled
invariant-loop-spelled g l = (end : Log) → SendsItems (items_of (map spelled_data (drop l.spelled-index l.list))) (g.S.Serializer.written l.out) end → SendsItems (items_of (map spelled_data l.list)) (g.S.Serializer.written l.initial.out) end
