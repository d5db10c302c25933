use Rattle.std.proofs.Common.{◌∙◌, arith, inl, inr}
use Rattle.values.specs.Seen.{of_member}
use Rattle.value_measures.proofs.Ends.{at_end}
use Rattle.value_measures.proofs.same.same_members.Goals as goal
use Rattle.value_measures.proofs.same.same_members.Goals.{then-loop-i-test+else-i-b, else-loop-i-test}

pub returns : goal.returns
returns c =
    let l = c.loop-i in
    elim c.loop-i-test.branch [
      | then-loop-i-test+else-i-b w ↦ at_end of_member c.args.a.now c.args.b.now l.i l.invariant.in_a l.invariant.in_b (inr (grind (arith, w.if-i-b))) ∙ l.invariant.same
      | else-loop-i-test w ↦ at_end of_member c.args.a.now c.args.b.now l.i l.invariant.in_a l.invariant.in_b (inl (grind (arith, w.loop-i-test))) ∙ l.invariant.same
    ]
