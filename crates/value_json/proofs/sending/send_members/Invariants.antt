use Rattle.std.proofs.Common.{◌≡◌, drop}
use Rattle.serde.specs.Event.{Log}
use Rattle.serde_json.specs.Events.{SendsItems}
use Rattle.value_json.specs.Sound.{all_sound}
use Rattle.value_json_spec.specs.Printing.{keys_data}
use Rattle.values.specs.Seen.{of_members}
use Rattle.value_json.proofs.sending.send_members.Given as goal

-- whatever ends it well from here ends it well from the start
abbrev pub invariant-loop-k : goal.invariant-loop-k
invariant-loop-k g l = let rest = of_members (drop l.k-index l.members) in record {
  json : (end : Log) → SendsItems (keys_data rest) (g.S.Serializer.written l.out) end → SendsItems (keys_data (of_members l.members)) (g.S.Serializer.written l.initial.out) end;
  sound : all_sound rest ≡ all_sound (of_members l.members);
}
