use Rattle.node_store.specs.Paged.{states}
use Rattle.std.proofs.Common.{◌∙◌, ap, sym}
use Rattle.std.specs.Prelude.{Ok, Result}
use Rattle.run_heap.specs.declared.value.Rv.{Rv}
use Rattle.run_heap.specs.declared.fault.DraftFault.{DraftFault}
use Rattle.run_heap.specs.Heap.{Heap}
use Rattle.std.proofs.lemmas.Int.{to_z-of_z}
use Rattle.std.specs.Int.{w64}
use Rattle.draft_core.specs.Seen.{heap}
use Rattle.array_ops_spec.proofs.Edits.{slice_row}
use Rattle.array_ops.proofs.ranges.slice.Goals as goal

pub returns-clause-done : goal.returns-clause-done
returns-clause-done c =
    let h = heap (states c.args.store.now) c.args.scope.now in
    let g = heap (states c.args.store.now) c.list_of.new.self in
    let made = rw c.in_ok-items.ensures.same at c.in_ok-list_of.ensures.done in
    let from = rw (to_z-of_z w64 c.args.start c.ranges.start) at c.relative-from.ensures in
    slice_row c.args.start c.args.end h c.args.of.now g c.in_ok-len.len c.relative-from.result c.end_at-to.result c.deref.result.now c.in_ok-len.ensures.answer from c.end_at-to.ensures (c.deref.ensures.value ∙ c.in_ok-items.ensures.values) made.0
    ∙ ap (λ (v : Rv). let r : Result (Heap × Rv) DraftFault = Ok (g, v) in r) (sym made.1)
