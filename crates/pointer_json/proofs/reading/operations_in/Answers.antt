use Rattle.host_protocol_spec.specs.Pointers.{operation_walked}
use Rattle.value_json.proofs.Steps.{all_next, all_done}
use Rattle.pointer_json.proofs.reading.operations_in.Goals as goal

pub loop-item-preserved : goal.loop-item-preserved
loop-item-preserved c =
    rw c.in_ok-push.ensures.items
    (all_next operation_walked c.args.items.now c.loop-item.item-index c.item-item.result c.loop-item.out.items c.in_ok-operation_in.field-0 c.loop-item-test.true c.item-item.is c.in_ok-operation_in.ensures c.loop-item.invariant)

pub returns : goal.returns
returns c = all_done operation_walked c.args.items.now c.loop-item.item-index c.loop-item.out.items c.loop-item-test.false c.loop-item.invariant
