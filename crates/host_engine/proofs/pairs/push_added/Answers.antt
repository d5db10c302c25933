use Rattle.host_engine.proofs.PairLaws.{added_next, added_end, sorted_next}
use Rattle.host_engine.proofs.pairs.push_added.Goals as goal

pub loop-f-preserved : goal.loop-f-preserved
loop-f-preserved c = record {
  patches = added_next c.args.new.now c.loop-f.f-index c.f-item.result c.loop-f.list.items c.push.new.self.items _ c.loop-f-test.true c.f-item.is c.loop-f.invariant.sorted c.loop-f.invariant.patches (rw (← c.in_ok-setting.ensures) c.in_ok-push.ensures.items);
  sorted = sorted_next c.args.new.now c.loop-f.f-index c.f-item.result c.loop-f-test.true c.f-item.is c.loop-f.invariant.sorted;
}

pub returns : goal.returns
returns c = added_end c.args.new.now c.loop-f.f-index c.loop-f.list.items _ c.loop-f-test.false c.loop-f.invariant.patches
