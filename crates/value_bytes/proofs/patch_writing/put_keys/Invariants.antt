use Rattle.std.proofs.Common.{◌≡◌, ◌++◌, drop}
use Rattle.std.specs.Prelude.{IsTrue}
use Rattle.std.specs.List.{flat_map, AllByRecursion}
use Rattle.value_bytes_spec.specs.Spelling.{key_bytes, is_word}
use Rattle.value_bytes.proofs.patch_writing.put_keys.Given as goal

abbrev pub invariant-loop-k : goal.invariant-loop-k
invariant-loop-k l = let left = drop l.k-index l.keys in record {
  bytes : l.out.items ++ flat_map key_bytes left ≡ l.fn.out.items ++ flat_map key_bytes l.keys;
  words : AllByRecursion (λ k. IsTrue (is_word k)) left → AllByRecursion (λ k. IsTrue (is_word k)) l.keys;
}
