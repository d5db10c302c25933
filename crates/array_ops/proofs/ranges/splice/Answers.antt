use Rattle.node_store.specs.Paged.{states}
use Rattle.std.proofs.Common.{◌∙◌, ◌+◌, ap, sym}
use Rattle.std.specs.Prelude.{Ok, Result}
use Rattle.run_heap.specs.declared.value.Rv.{Rv}
use Rattle.run_heap.specs.declared.fault.DraftFault.{DraftFault}
use Rattle.run_heap.specs.Heap.{Heap}
use Rattle.std.proofs.lemmas.Int.{to_z-of_z}
use Rattle.std.specs.Int.{w64}
use Rattle.draft_core.specs.Seen.{heap}
use Rattle.array_ops_spec.proofs.Edits.{splice_row}
use Rattle.array_ops_spec.proofs.Guards.{items_stored}
use Rattle.array_ops.proofs.ranges.splice.Goals as goal

pub splice_with-requires-clause-stored : goal.splice_with-requires-clause-stored
splice_with-requires-clause-stored c =
    rw c.in_ok-gone.ensures.same
    (items_stored (heap (states c.args.store.now) c.args.scope.now) c.args.of.now c.args.items.now c.requires.items c.in_ok-len.ensures.answer.ours (sym c.any_undefined.ensures ∙ c.if-any_undefined.false))

pub returns-clause-done : goal.returns-clause-done
returns-clause-done c =
    let h = heap (states c.args.store.now) c.args.scope.now in
    let g = heap (states c.args.store.now) c.splice_with.new.self in
    let from = c.relative-from.result in
    let to = from + c.removed.result in
    let first = rw (to_z-of_z w64 c.args.start c.ranges.start) at c.relative-from.ensures in
    let made = rw c.in_ok-gone.ensures.same at c.in_ok-splice_with.ensures.done in
    let defined = sym c.any_undefined.ensures ∙ c.if-any_undefined.false in
    splice_row c.args.start c.args.count c.args.items.now h c.args.of.now g c.in_ok-len.len from to c.deref.result.now c.requires.stands.sound c.in_ok-len.ensures.answer first (ap (λ k. from + k) c.removed.ensures) defined (c.deref.ensures.value ∙ c.in_ok-gone.ensures.values) made.0
    ∙ ap (λ (v : Rv). let r : Result (Heap × Rv) DraftFault = Ok (g, v) in r) (sym made.1)
