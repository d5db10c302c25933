use Rattle.node_store.specs.Paged.{states}
use Rattle.std.proofs.Common.{◌∙◌, List, sym, subst}
use Rattle.run_heap.specs.declared.value.Rv.{Rv}
use Rattle.run_heap.specs.Operations.{table_of}
use Rattle.run_heap.specs.Sound.{AllStored}
use Rattle.draft_core.specs.Seen.{heap}
use Rattle.array_ops_spec.proofs.Edits.{one_more, stored_more, value_element}
use Rattle.array_ops_spec.specs.Guards.{elements_of}
use Rattle.array_ops.proofs.elements.elements.Goals as goal

pub loop-i-preserved : goal.loop-i-preserved
loop-i-preserved c =
    let h = heap (states c.args.store.now) c.args.scope.now in
    let xs = elements_of h c.args.of.now in
    let v = c.in_ok-entry_at.field-0 in
    let there = sym (value_element (table_of h c.args.of.now) c.loop-i.i) ∙ (rw c.loop-i.invariant.same at c.in_ok-entry_at.ensures.value) in
    let kept = rw c.loop-i.invariant.same at c.in_ok-entry_at.ensures.stored in
    record {
      same = c.in_ok-entry_at.ensures.same ∙ c.loop-i.invariant.same;
      values = one_more xs c.loop-i.out.items c.push.new.self.items c.args.from c.loop-i.i c.args.to v c.loop-i.invariant.values there c.loop-i-test.true c.in_ok-push.ensures.items;
      stored = subst (λ (vs : List Rv). AllStored h vs) (sym c.in_ok-push.ensures.items) (stored_more h c.loop-i.out.items v c.loop-i.invariant.stored kept);
    }
