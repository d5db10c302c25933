use Rattle.std.proofs.Common.{◌≡◌, ◌≤◌, ◌+◌, ◌*◌, drop}
use Rattle.serde.specs.Event.{Log}
use Rattle.serde_json.specs.Events.{SendsItems, SendsMembers}
use Rattle.value_json.specs.Sound.{all_sound}
use Rattle.value_model.specs.Plain.{values, values_in}
use Rattle.value_json_spec.specs.Printing.{fields_data, elements_data, pairs_data}
use Rattle.values.specs.Seen.{of_fields, of_entries, of_items}
use Rattle.value_json.proofs.sending.+send.Given as goal

abbrev pub decreases-send : goal.decreases-send
decreases-send g l = 3 * values l.v.now

abbrev pub decreases-send_object : goal.decreases-send_object
decreases-send_object g l = 3 * values_in (of_fields l.fields.now) + 2

-- whatever ends it well from here ends it well from the start
abbrev pub invariant-send_fields-loop-f : goal.invariant-send_fields-loop-f
invariant-send_fields-loop-f g l = let rest = of_fields (drop l.f-index l.fields) in record {
  json : (end : Log) → SendsMembers (fields_data rest) (g.S.Serializer.written l.out) end → SendsMembers (fields_data (of_fields l.fields)) (g.S.Serializer.written l.initial.out) end;
  sound : all_sound rest ≡ all_sound (of_fields l.fields);
  rest : values_in rest ≤ values_in (of_fields l.fields);
}

abbrev pub decreases-send_fields : goal.decreases-send_fields
decreases-send_fields g l = 3 * values_in (of_fields l.fields.now) + 1

abbrev pub invariant-send_items-loop-v : goal.invariant-send_items-loop-v
invariant-send_items-loop-v g l = let rest = of_items (drop l.v-index l.items) in record {
  json : (end : Log) → SendsItems (elements_data rest) (g.S.Serializer.written l.out) end → SendsItems (elements_data (of_items l.items)) (g.S.Serializer.written l.initial.out) end;
  sound : all_sound rest ≡ all_sound (of_items l.items);
  rest : values_in rest ≤ values_in (of_items l.items);
}

abbrev pub decreases-send_items : goal.decreases-send_items
decreases-send_items g l = 3 * values_in (of_items l.items.now) + 1

abbrev pub invariant-send_pairs-loop-e : goal.invariant-send_pairs-loop-e
invariant-send_pairs-loop-e g l = let rest = of_entries (drop l.e-index l.entries) in record {
  json : (end : Log) → SendsItems (pairs_data rest) (g.S.Serializer.written l.out) end → SendsItems (pairs_data (of_entries l.entries)) (g.S.Serializer.written l.initial.out) end;
  sound : all_sound rest ≡ all_sound (of_entries l.entries);
  rest : values_in rest ≤ values_in (of_entries l.entries);
}

abbrev pub decreases-send_pairs : goal.decreases-send_pairs
decreases-send_pairs g l = 3 * values_in (of_entries l.entries.now) + 2

abbrev pub decreases-send_pair : goal.decreases-send_pair
decreases-send_pair g l = 3 * values l.e.now.value + 1
