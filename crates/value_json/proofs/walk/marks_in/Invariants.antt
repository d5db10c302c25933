use Rattle.std.proofs.Common.{◌≡◌, [], drop}
use Rattle.serde_json.specs.View.{items_view}
use Rattle.value_json_spec.specs.Reading.{set_members}
use Rattle.value_json.specs.Ranks.{of_marks}
use Rattle.value_json.proofs.walk.marks_in.Given as goal

abbrev pub invariant-loop-item : goal.invariant-loop-item
invariant-loop-item l = set_members (items_view (drop l.item-index l.items)) (of_marks l.found.entries) ≡ set_members (items_view l.items) []
