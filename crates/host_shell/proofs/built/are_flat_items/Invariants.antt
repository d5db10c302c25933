use Rattle.std.proofs.Common.{◌≡◌, drop}
use Rattle.serde_json.specs.View.{items_view}
use Rattle.stream_run.specs.Built as spec
use Rattle.host_shell.proofs.built.are_flat_items.Given as goal

abbrev pub invariant-loop-item : goal.invariant-loop-item
invariant-loop-item l = spec.are_flat_items (items_view (drop l.item-index l.items)) ≡ spec.are_flat_items (items_view l.items)
