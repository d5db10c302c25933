use Rattle.std.proofs.Common.{◌++◌, ◌∙◌, ap, List}
use Rattle.value_bytes_spec.specs.Spelling.{pair_bytes}
use Rattle.value_bytes.proofs.Packs.{stands_for, is_packed}
use Rattle.value_bytes.proofs.packed.Packed.of.Goals as goal

pub invariant_of-result : goal.invariant_of-result
invariant_of-result c = is_packed _ c.args.pair.now (c.in_ok-from_vec.ensures ∙ c.in_ok-put_pair.ensures.bytes ∙ ap (λ (xs : List _). xs ++ pair_bytes c.args.pair.now) c.new-bytes.ensures.items) c.in_ok-put_pair.ensures.pair

pub returns : goal.returns
returns c = stands_for _ c.args.pair.now (c.in_ok-from_vec.ensures ∙ c.in_ok-put_pair.ensures.bytes ∙ ap (λ (xs : List _). xs ++ pair_bytes c.args.pair.now) c.new-bytes.ensures.items) c.in_ok-put_pair.ensures.pair
