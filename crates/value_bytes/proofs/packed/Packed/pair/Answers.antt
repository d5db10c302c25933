use Rattle.std.proofs.Common.{◌≡◌, ℕ, List, None, subst}
use Rattle.std.specs.Rc.{rc_slice_items}
use Rattle.value_bytes_spec.specs.Reading.{pair_at}
use Rattle.value_bytes.proofs.Packs.{packed_reads}
use Rattle.value_bytes.proofs.packed.Packed.pair.Goals as goal

pub unreachable-requires : goal.unreachable-requires
unreachable-requires c =
    let nothing : pair_at c.as_slice.result.now ≡ None = rw c.in-Err-NoSpelling.field-0-is at c.in-Err-NoSpelling.ensures in
    packed_reads (rc_slice_items c.self.inside.bytes) c.self.invariant (subst (λ (xs : List ℕ). pair_at xs ≡ None) c.as_slice.ensures.value nothing)
