use Rattle.std.proofs.Common.{◌≡◌, ◌++◌, drop}
use Rattle.value_model.specs.declared.kind.Kind.TheVariants as kind
use Rattle.value_model.specs.Well.{all_well}
use Rattle.values.specs.Seen.{of_members}
use Rattle.value_bytes_spec.specs.Spelling.{entries_bytes, all_words_in}
use Rattle.value_bytes.proofs.writing.put_members.Given as goal

abbrev pub invariant-loop-k : goal.invariant-loop-k
invariant-loop-k l = let rest = of_members (drop l.k-index l.members) in let all = of_members l.members in record {
  bytes : l.out.items ++ entries_bytes kind.Set rest ≡ l.fn.out.items ++ entries_bytes kind.Set all;
  well : all_well rest ≡ all_well all;
  words : all_words_in rest ≡ all_words_in all;
}
