use Rattle.node_store.specs.Paged.{states}
use Rattle.std.proofs.Common.{◌∙◌, [], ap, reverse}
use Rattle.run_heap.specs.Operations.{table_of}
use Rattle.draft_core.specs.Seen.{heap}
use Rattle.array_ops_spec.specs.Calls.{turned}
use Rattle.array_ops_spec.proofs.Edits.{long_elements, range_all, row_spliced, stored_reverse, turned_at}
use Rattle.array_ops_spec.specs.Guards.{elements_of}
use Rattle.array_ops.proofs.ranges.reverse.Goals as goal

pub splice_at-requires-clause-stored : goal.splice_at-requires-clause-stored
splice_at-requires-clause-stored c =
    let h = heap (states c.args.store.now) c.args.scope.now in
    let turned = c.deref.ensures.value ∙ c.reverse.ensures.items in
    rw (c.in_ok-items.ensures.same, turned) (stored_reverse h c.in_ok-items.items.items c.in_ok-items.ensures.stored)

pub returns-clause-done : goal.returns-clause-done
returns-clause-done c =
    let h = heap (states c.args.store.now) c.args.scope.now in
    let of = c.args.of.now in
    let xs = elements_of h of in
    let n = c.in_ok-len.len in
    let writable = c.in_ok-len.ensures.answer in
    let long = long_elements (table_of h of) n writable.long in
    let items = c.deref.result.now in
    let all = c.in_ok-items.ensures.values ∙ range_all xs n long in
    let row = turned_at xs n long items (c.deref.ensures.value ∙ c.reverse.ensures.items ∙ ap reverse all) in
    row_spliced turned h (heap (states c.args.store.now) c.splice_at.new.self) of [] n 0 n items tt c.requires.stands.sound writable row (rw c.in_ok-items.ensures.same at c.in_ok-splice_at.ensures.done)
