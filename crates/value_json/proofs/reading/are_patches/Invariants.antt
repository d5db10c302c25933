use Rattle.std.proofs.Common.{◌≡◌, drop}
use Rattle.serde_json.specs.View.{items_view}
use Rattle.value_json_spec.specs.Patches.{are_patches}
use Rattle.value_json.proofs.reading.are_patches.Given as goal

abbrev pub invariant-loop-item : goal.invariant-loop-item
invariant-loop-item l = are_patches (items_view (drop l.item-index l.items)) ≡ are_patches (items_view l.items)
