use Rattle.std.proofs.Common.{◌≡◌, ◌++◌, drop}
use Rattle.std.specs.List.{flat_map, AllByRecursion}
use Rattle.value_bytes_spec.specs.Spelling.{patch_bytes, IsPatch, CanSpellPatch}
use Rattle.value_bytes.proofs.patch_writing.put_each.Given as goal

abbrev pub invariant-loop-p : goal.invariant-loop-p
invariant-loop-p l = let left = drop l.p-index l.list in record {
  bytes : l.out.items ++ flat_map patch_bytes left ≡ l.fn.out.items ++ flat_map patch_bytes l.list;
  can : AllByRecursion CanSpellPatch left;
  each : AllByRecursion IsPatch left → AllByRecursion IsPatch l.list;
}
