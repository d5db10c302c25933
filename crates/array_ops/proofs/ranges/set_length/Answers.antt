use Rattle.node_store.specs.Paged.{states}
use Rattle.std.proofs.Common.{[]}
use Rattle.run_heap.specs.Operations.{table_of}
use Rattle.std.proofs.lemmas.Int.{to_z-of_z}
use Rattle.std.specs.Int.{w64}
use Rattle.draft_core.specs.Seen.{heap}
use Rattle.array_ops_spec.specs.Calls.{cut_to}
use Rattle.array_ops_spec.proofs.Edits.{long_elements, cut_ok, row_spliced}
use Rattle.array_ops_spec.specs.Guards.{elements_of}
use Rattle.array_ops.proofs.ranges.set_length.Goals as goal

pub returns-clause-done : goal.returns-clause-done
returns-clause-done c =
    let h = heap (states c.args.store.now) c.args.scope.now in
    let of = c.args.of.now in
    let n = c.in_ok-len.len in
    let end = c.in-Some.end in
    let writable = c.in_ok-len.ensures.answer in
    let long = long_elements (table_of h of) n writable.long in
    let cut = rw (to_z-of_z w64 c.args.n c.ranges.n) at c.in-Some.ensures in
    let row = cut_ok (elements_of h of) n long c.args.n end cut.0 cut.1 in
    row_spliced (cut_to c.args.n) h (heap (states c.args.store.now) c.splice_at.new.self) of [] n end n [] tt c.requires.stands.sound writable row c.in_ok-splice_at.ensures.done
