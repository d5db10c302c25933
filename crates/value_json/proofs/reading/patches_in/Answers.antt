use Rattle.value_json_spec.specs.Patches.{patch_walked}
use Rattle.value_json.proofs.Steps.{all_next, all_done}
use Rattle.value_json.proofs.reading.patches_in.Goals as goal

pub loop-item-preserved : goal.loop-item-preserved
loop-item-preserved c =
    rw c.in_ok-push.ensures.items
    (all_next patch_walked c.args.items.now c.loop-item.item-index c.item-item.result c.loop-item.out.items c.in_ok-patch_in.field-0 c.loop-item-test.true c.item-item.is c.in_ok-patch_in.ensures c.loop-item.invariant)

pub returns : goal.returns
returns c = all_done patch_walked c.args.items.now c.loop-item.item-index c.loop-item.out.items c.loop-item-test.false c.loop-item.invariant
