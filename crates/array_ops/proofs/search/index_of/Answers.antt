use Rattle.node_store.specs.Paged.{states}
use Rattle.std.proofs.Common.{◌∙◌, sym}
use Rattle.std.specs.Prelude.{None}
use Rattle.draft_core.specs.Seen.{heap}
use Rattle.array_ops_spec.proofs.Edits.{index_row}
use Rattle.array_ops.proofs.search.index_of.Goals as goal

pub returns-in-None-clause-answer : goal.returns-in-None-clause-answer
returns-in-None-clause-answer c = sym (index_row c.args.item.now (heap (states c.args.store.now) c.args.scope.now) c.args.of.now c.in_ok-len.len None (rw c.from_ref.ensures.value at c.in_ok-len.ensures.answer) (sym c.in-None.is ∙ c.find.ensures.index))
