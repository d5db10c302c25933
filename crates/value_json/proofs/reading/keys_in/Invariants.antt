use Rattle.std.proofs.Common.{drop}
use Rattle.value_json_spec.specs.Reading.{key_from}
use Rattle.value_json.proofs.Steps.{Along}
use Rattle.value_json.proofs.reading.keys_in.Given as goal

abbrev pub invariant-loop-item : goal.invariant-loop-item
invariant-loop-item l = Along key_from l.out.items (drop l.item-index l.items) l.items
