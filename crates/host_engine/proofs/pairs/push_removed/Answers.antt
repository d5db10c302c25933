use Rattle.host_engine.proofs.PairLaws.{removed_next, removed_end, sorted_next}
use Rattle.host_engine.proofs.pairs.push_removed.Goals as goal

pub loop-f-preserved : goal.loop-f-preserved
loop-f-preserved c = record {
  patches = removed_next c.args.old.now c.loop-f.f-index c.f-item.result c.loop-f.list.items c.push.new.self.items _ c.loop-f-test.true c.f-item.is c.loop-f.invariant.sorted c.loop-f.invariant.patches (rw (← c.in_ok-removing.ensures) c.in_ok-push.ensures.items);
  sorted = sorted_next c.args.old.now c.loop-f.f-index c.f-item.result c.loop-f-test.true c.f-item.is c.loop-f.invariant.sorted;
}

pub returns : goal.returns
returns c = removed_end c.args.old.now c.loop-f.f-index c.loop-f.list.items _ c.loop-f-test.false c.loop-f.invariant.patches
