use Rattle.std.proofs.Common.{◌≡◌, ◌≤◌, ◌+◌, ◌*◌, ◌++◌, drop}
use Rattle.value_model.specs.declared.kind.Kind.TheVariants as kind
use Rattle.value_model.specs.Plain.{values, values_in, weights}
use Rattle.value_model.specs.Well.{all_well}
use Rattle.values.specs.Seen.{of_fields, of_entries, of_items}
use Rattle.value_bytes_spec.specs.Spelling.{entries_bytes, all_words_in}
use Rattle.value_bytes.proofs.writing.+writing.Given as goal

abbrev pub decreases-put_nested : goal.decreases-put_nested
decreases-put_nested l = 2 * values l.v.now

abbrev pub decreases-put_fields : goal.decreases-put_fields
decreases-put_fields l = 2 * values_in (of_fields l.fields.now) + 1

abbrev pub invariant-put_fields-loop-f : goal.invariant-put_fields-loop-f
invariant-put_fields-loop-f l = let rest = of_fields (drop l.f-index l.fields) in let all = of_fields l.fields in record {
  bytes : l.out.items ++ entries_bytes kind.Obj rest ≡ l.fn.out.items ++ entries_bytes kind.Obj all;
  well : all_well rest ≡ all_well all;
  words : all_words_in rest ≡ all_words_in all;
  fewer : values_in rest ≤ values_in all;
  light : weights kind.Obj rest ≤ weights kind.Obj all;
}

abbrev pub decreases-put_items : goal.decreases-put_items
decreases-put_items l = 2 * values_in (of_items l.items.now) + 1

abbrev pub invariant-put_items-loop-v : goal.invariant-put_items-loop-v
invariant-put_items-loop-v l = let rest = of_items (drop l.v-index l.items) in let all = of_items l.items in record {
  bytes : l.out.items ++ entries_bytes kind.List rest ≡ l.fn.out.items ++ entries_bytes kind.List all;
  well : all_well rest ≡ all_well all;
  words : all_words_in rest ≡ all_words_in all;
  fewer : values_in rest ≤ values_in all;
  light : weights kind.List rest ≤ weights kind.List all;
}

abbrev pub decreases-put_entries : goal.decreases-put_entries
decreases-put_entries l = 2 * values_in (of_entries l.entries.now) + 1

abbrev pub invariant-put_entries-loop-e : goal.invariant-put_entries-loop-e
invariant-put_entries-loop-e l = let rest = of_entries (drop l.e-index l.entries) in let all = of_entries l.entries in record {
  bytes : l.out.items ++ entries_bytes kind.Map rest ≡ l.fn.out.items ++ entries_bytes kind.Map all;
  well : all_well rest ≡ all_well all;
  words : all_words_in rest ≡ all_words_in all;
  fewer : values_in rest ≤ values_in all;
  light : weights kind.Map rest ≤ weights kind.Map all;
}
