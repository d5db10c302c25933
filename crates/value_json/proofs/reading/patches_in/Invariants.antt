use Rattle.std.proofs.Common.{drop}
use Rattle.value_json_spec.specs.Patches.{patch_walked}
use Rattle.value_json.proofs.Steps.{Along}
use Rattle.value_json.proofs.reading.patches_in.Given as goal

abbrev pub invariant-loop-item : goal.invariant-loop-item
invariant-loop-item l = Along patch_walked l.out.items (drop l.item-index l.items) l.items
