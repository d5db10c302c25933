use Rattle.std.proofs.Common.{◌≡◌, drop}
use Rattle.value_json_spec.specs.Patches.{first_limit}
use Rattle.value_json.proofs.reading.first_limit.Given as goal

abbrev pub invariant-loop-patch : goal.invariant-loop-patch
invariant-loop-patch l = first_limit (drop l.patch-index l.list) ≡ first_limit l.list
