use Rattle.std.proofs.Common.{sym, ◌∙◌, arith}
use Rattle.host_engine.proofs.PairLaws.{merged_less, merged_greater, merged_equal, sorted_next}
use Rattle.host_engine.proofs.pairs.merge.Goals as goal

pub loop-old_at-preserved-in-Less : goal.loop-old_at-preserved-in-Less
loop-old_at-preserved-in-Less c =
    let x = c.index-old-old_at.result in
    let y = c.index-new-new_at.result in
    let step = c.in_ok-push_first.ensures in
    record {
      patches = merged_less c.args.old.now c.args.new.now c.loop-old_at.old_at c.loop-old_at.new_at x y c.loop-old_at.list.items c.push_first.new.list.items _ c.loop-old_at-test.true c.if-new_at-new.true
          c.index-old-old_at.is c.index-new-new_at.is c.loop-old_at.invariant.old_rest c.loop-old_at.invariant.new_rest c.loop-old_at.invariant.patches (sym step.order ∙ c.in-Less.is) (rw c.in-Less.is at step.patches);
      old_in = omega arith;
      new_in = omega arith;
      old_rest = sorted_next c.args.old.now c.loop-old_at.old_at x c.loop-old_at-test.true c.index-old-old_at.is c.loop-old_at.invariant.old_rest;
      new_rest = c.loop-old_at.invariant.new_rest;
    }

pub loop-old_at-preserved-in-Greater : goal.loop-old_at-preserved-in-Greater
loop-old_at-preserved-in-Greater c =
    let x = c.index-old-old_at.result in
    let y = c.index-new-new_at.result in
    let step = c.in_ok-push_first.ensures in
    record {
      patches = merged_greater c.args.old.now c.args.new.now c.loop-old_at.old_at c.loop-old_at.new_at x y c.loop-old_at.list.items c.push_first.new.list.items _ c.loop-old_at-test.true c.if-new_at-new.true
          c.index-old-old_at.is c.index-new-new_at.is c.loop-old_at.invariant.old_rest c.loop-old_at.invariant.new_rest c.loop-old_at.invariant.patches (sym step.order ∙ c.in-Greater.is) (rw c.in-Greater.is at step.patches);
      old_in = omega arith;
      new_in = omega arith;
      old_rest = c.loop-old_at.invariant.old_rest;
      new_rest = sorted_next c.args.new.now c.loop-old_at.new_at y c.if-new_at-new.true c.index-new-new_at.is c.loop-old_at.invariant.new_rest;
    }

pub loop-old_at-preserved : goal.loop-old_at-preserved
loop-old_at-preserved c =
    let x = c.index-old-old_at.result in
    let y = c.index-new-new_at.result in
    let step = c.in_ok-push_first.ensures in
    record {
      patches = merged_equal c.args.old.now c.args.new.now c.loop-old_at.old_at c.loop-old_at.new_at x y c.loop-old_at.list.items c.push_first.new.list.items _ c.loop-old_at-test.true c.if-new_at-new.true
          c.index-old-old_at.is c.index-new-new_at.is c.loop-old_at.invariant.old_rest c.loop-old_at.invariant.new_rest c.loop-old_at.invariant.patches (sym step.order ∙ c.in-Equal.is) (rw c.in-Equal.is at step.patches);
      old_in = omega arith;
      new_in = omega arith;
      old_rest = sorted_next c.args.old.now c.loop-old_at.old_at x c.loop-old_at-test.true c.index-old-old_at.is c.loop-old_at.invariant.old_rest;
      new_rest = sorted_next c.args.new.now c.loop-old_at.new_at y c.if-new_at-new.true c.index-new-new_at.is c.loop-old_at.invariant.new_rest;
    }
