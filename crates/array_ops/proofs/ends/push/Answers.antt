use Rattle.node_store.specs.Paged.{states}
use Rattle.std.proofs.Common.{◌∙◌, ◌+◌, length, sym}
use Rattle.array_ops_spec.specs.Calls.{pushed}
use Rattle.array_ops_spec.proofs.Edits.{long_elements, pushed_at, row_spliced}
use Rattle.array_ops_spec.specs.Guards.{elements_of}
use Rattle.array_ops_spec.proofs.Guards.{items_stored}
use Rattle.draft_core.specs.Seen.{heap}
use Rattle.run_heap.specs.Operations.{table_of}
use Rattle.array_ops.proofs.ends.push.Goals as goal

pub splice_at-requires-clause-stored : goal.splice_at-requires-clause-stored
splice_at-requires-clause-stored c = items_stored (heap (states c.args.store.now) c.args.scope.now) c.args.of.now c.args.items.now c.requires.items c.in_ok-count.ensures.answer.ours (sym c.any_undefined.ensures ∙ c.if-any_undefined.false)

pub returns-clause-done : goal.returns-clause-done
returns-clause-done c =
    let h = heap (states c.args.store.now) c.args.scope.now in
    let of = c.args.of.now in
    let items = c.args.items.now in
    let n = c.in_ok-count.count in
    let writable = c.in_ok-count.ensures.answer in
    let long = long_elements (table_of h of) n writable.long in
    let defined = sym c.any_undefined.ensures ∙ c.if-any_undefined.false in
    row_spliced (pushed items) h (heap (states c.args.store.now) c.splice_at.new.self) of items n n n items (n + length items) c.requires.stands.sound writable (pushed_at (elements_of h of) items n long defined) c.in_ok-splice_at.ensures.done
