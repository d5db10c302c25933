use Rattle.std.proofs.Common.{◌≡◌, ◌++◌, [], map, drop}
use Rattle.serde_json.specs.View.{items_view, members_view}
use Rattle.value_json_spec.specs.Answers.{result_map}
use Rattle.value_json_spec.specs.Reading.{elements, fields, map_pairs}
use Rattle.value_json.specs.Ranks.{of_pairs}
use Rattle.value_json.proofs.Steps.{joined, keys, names}
use Rattle.values.specs.Seen.{of_item, of_field}
use Rattle.value_json.proofs.walk.+walk.Given as goal

abbrev pub invariant-elements_in-loop-item : goal.invariant-elements_in-loop-item
invariant-elements_in-loop-item l = elements (items_view l.items) ≡ result_map (joined (map of_item l.out.items)) (elements (items_view (drop l.item-index l.items)))

abbrev pub invariant-fields_in-loop-name : goal.invariant-fields_in-loop-name
invariant-fields_in-loop-name l = record {
  given : fields (members_view l.members.entries) ≡ result_map (joined (map of_field l.out.items)) (fields (members_view l.name-iterator));
  names : keys l.out.items ++ names l.name-iterator ≡ names l.members.entries;
}

abbrev pub invariant-pairs_in-loop-item : goal.invariant-pairs_in-loop-item
invariant-pairs_in-loop-item l = map_pairs (items_view (drop l.item-index l.items)) (of_pairs l.found.entries) ≡ map_pairs (items_view l.items) []
