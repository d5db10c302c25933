use Rattle.std.proofs.lemmas.Result.{err_from_is_err_and}
use Rattle.values.specs.declared.patch.Patch.{Patch}
use Rattle.value_bytes_spec.specs.Reading.{patch_at, patch_list_at}
use Rattle.value_bytes.proofs.Repeats.{patches_repeat, goes_on, ends, is_done}
use Rattle.value_bytes.proofs.patch_reading.patch_list_of.Goals as goal

pub returns-in_err-patch : goal.returns-in_err-patch
returns-in_err-patch c =
    let p = err_from_is_err_and c.from_residual.result c.from_residual.ensures.1 in
    rw (p.1, p.2) (ends Patch patch_at patch_list_at patches_repeat c.in_err-patch.field-0.0 c.loop.list.items c.args.count c.loop.counter c.loop.rest.now _ c.loop-test.true c.in_err-patch.ensures c.loop.invariant)

pub loop-preserved : goal.loop-preserved
loop-preserved c = rw c.in_ok-push.ensures.items (goes_on Patch patch_at patch_list_at patches_repeat c.loop.list.items c.args.count c.loop.counter c.loop.rest.now c.in_ok-patch.patch c.in_ok-patch.after.now _ c.loop-test.true c.in_ok-patch.ensures c.loop.invariant)

pub returns : goal.returns
returns c = is_done Patch patch_at patch_list_at patches_repeat c.loop.list.items c.args.count c.loop.counter c.loop.rest.now _ c.loop-test.false c.loop.invariant
