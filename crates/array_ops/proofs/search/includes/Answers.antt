use Rattle.node_store.specs.Paged.{states}
use Rattle.std.proofs.Common.{◌∙◌, ap, sym, Bool}
use Rattle.std.specs.Prelude.{Ok, Result}
use Rattle.run_heap.specs.declared.fault.DraftFault.{DraftFault}
use Rattle.draft_core.specs.Seen.{heap}
use Rattle.array_ops_spec.proofs.Edits.{includes_row}
use Rattle.array_ops.proofs.search.includes.Goals as goal

pub returns-clause-answer : goal.returns-clause-answer
returns-clause-answer c = sym (
    includes_row c.args.item.now (heap (states c.args.store.now) c.args.scope.now) c.args.of.now c.in_ok-len.len c.find.result (rw c.from_ref.ensures.value at c.in_ok-len.ensures.answer) c.find.ensures.index
    ∙ ap (λ (b : Bool). let r : Result Bool DraftFault = Ok b in r) (sym c.is_some.ensures))
