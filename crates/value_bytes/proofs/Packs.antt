-- Bytes that are the spellings of a pair stand for it.
use Rattle.std.proofs.Common.{◌≡◌, ℕ, List, [], Some, None, sym, ap, subst, ◌∙◌}
use Rattle.std.proofs.lemmas.List.{append-nil}
use Rattle.std.proofs.lemmas.Option.{none-some}
use Rattle.values.specs.declared.patch.Pair.{Pair}
use Rattle.value_bytes_spec.proofs.Lists.{pair_again}
use Rattle.value_bytes_spec.specs.Reading.{pair_at}
use Rattle.value_bytes_spec.specs.Spelling.{pair_bytes, IsPair}
use Rattle.value_bytes.specs.Packing.{pair_read, pair_of, IsPacked}

read_whole : (xs : List ℕ) (p : Pair) → xs ≡ pair_bytes p → IsPair p → pair_at xs ≡ Some (p, [])
read_whole xs p e ok = ap pair_at (e ∙ sym (append-nil (pair_bytes p))) ∙ pair_again p [] ok

pub stands_for : (xs : List ℕ) (p : Pair) → xs ≡ pair_bytes p → IsPair p → pair_of xs ≡ p
stands_for xs p e ok = ap pair_read (read_whole xs p e ok)

pub is_packed : (xs : List ℕ) (p : Pair) → xs ≡ pair_bytes p → IsPair p → IsPacked xs
is_packed xs p e ok =
    let same = stands_for xs p e ok in
    record { is = e ∙ ap pair_bytes (sym same); pair = subst IsPair (sym same) ok }

pub packed_reads : (xs : List ℕ) → IsPacked xs → pair_at xs ≡ None → ⊥
packed_reads xs packed h = none-some (pair_of xs, []) (sym h ∙ read_whole xs (pair_of xs) packed.is packed.pair)
