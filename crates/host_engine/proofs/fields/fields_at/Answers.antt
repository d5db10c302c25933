use Rattle.node_store.specs.Paged.{states}
use Rattle.std.proofs.Common.{arith}
use Rattle.host_engine.specs.Kept.{table_at}
use Rattle.numbered.specs.Store.{tree_at}
use Rattle.host_engine.proofs.FieldLaws.{fields_all, fields_more}
use Rattle.host_engine.proofs.fields.fields_at.Goals as goal

pub loop-i-preserved : goal.loop-i-preserved
loop-i-preserved c = record {
  done = fields_more c.loop-i.out.items c.push_reserved.new.self.items (table_at (states c.args.store.now) c.args.root) c.loop-i.i c.field_at.result c.field_at.ensures c.loop-i.invariant.done c.push_reserved.ensures.items;
  len = omega arith;
  room = omega arith;
}

pub returns : goal.returns
returns c = fields_all c.loop-i.out.items (tree_at (states c.args.store.now) c.args.root) c.loop-i.i (omega (arith, c.count-count.ensures, c.loop-i-test.false)) c.loop-i.invariant.done
