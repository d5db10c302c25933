use Rattle.std.proofs.Common.{◌∙◌, arith, inl, inr}
use Rattle.values.specs.Seen.{of_field, of_entry, of_item}
use Rattle.value_measures.proofs.Ends.{at_end}
use Rattle.value_measures.proofs.same.+same.Goals as goal
use Rattle.value_measures.proofs.same.+same.Goals.{same_fields-then-loop-i-test+else-i-b, same_fields-else-loop-i-test, same_items-then-loop-i-test+else-i-b, same_items-else-loop-i-test, same_pairs-then-loop-i-test+else-i-b, same_pairs-else-loop-i-test}

pub same_fields-returns : goal.same_fields-returns
same_fields-returns t c =
    let l = c.loop-i in
    elim c.loop-i-test.branch [
      | same_fields-then-loop-i-test+else-i-b w ↦ at_end of_field c.args.a.now c.args.b.now l.i l.invariant.in_a l.invariant.in_b (inr (grind (arith, w.if-i-b))) ∙ l.invariant.same
      | same_fields-else-loop-i-test w ↦ at_end of_field c.args.a.now c.args.b.now l.i l.invariant.in_a l.invariant.in_b (inl (grind (arith, w.loop-i-test))) ∙ l.invariant.same
    ]

pub same_items-returns : goal.same_items-returns
same_items-returns t c =
    let l = c.loop-i in
    elim c.loop-i-test.branch [
      | same_items-then-loop-i-test+else-i-b w ↦ at_end of_item c.args.a.now c.args.b.now l.i l.invariant.in_a l.invariant.in_b (inr (grind (arith, w.if-i-b))) ∙ l.invariant.same
      | same_items-else-loop-i-test w ↦ at_end of_item c.args.a.now c.args.b.now l.i l.invariant.in_a l.invariant.in_b (inl (grind (arith, w.loop-i-test))) ∙ l.invariant.same
    ]

pub same_pairs-returns : goal.same_pairs-returns
same_pairs-returns t c =
    let l = c.loop-i in
    elim c.loop-i-test.branch [
      | same_pairs-then-loop-i-test+else-i-b w ↦ at_end of_entry c.args.a.now c.args.b.now l.i l.invariant.in_a l.invariant.in_b (inr (grind (arith, w.if-i-b))) ∙ l.invariant.same
      | same_pairs-else-loop-i-test w ↦ at_end of_entry c.args.a.now c.args.b.now l.i l.invariant.in_a l.invariant.in_b (inl (grind (arith, w.loop-i-test))) ∙ l.invariant.same
    ]
