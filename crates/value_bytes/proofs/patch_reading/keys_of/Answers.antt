use Rattle.std.proofs.lemmas.Result.{err_from_is_err_and}
use Rattle.value_model.specs.declared.key.Key.{Key}
use Rattle.value_bytes_spec.specs.Reading.{key_at, keys_at}
use Rattle.value_bytes.proofs.Repeats.{keys_repeat, goes_on, ends, is_done}
use Rattle.value_bytes.proofs.patch_reading.keys_of.Goals as goal

pub returns-in_err-key : goal.returns-in_err-key
returns-in_err-key c =
    let p = err_from_is_err_and c.from_residual.result c.from_residual.ensures.1 in
    rw (p.1, p.2) (ends Key key_at keys_at keys_repeat c.in_err-key.field-0.0 c.loop.keys.items c.args.count c.loop.counter c.loop.rest.now _ c.loop-test.true c.in_err-key.ensures c.loop.invariant)

pub loop-preserved : goal.loop-preserved
loop-preserved c = rw c.in_ok-push.ensures.items (goes_on Key key_at keys_at keys_repeat c.loop.keys.items c.args.count c.loop.counter c.loop.rest.now c.in_ok-key.key c.in_ok-key.after.now _ c.loop-test.true c.in_ok-key.ensures c.loop.invariant)

pub returns : goal.returns
returns c = is_done Key key_at keys_at keys_repeat c.loop.keys.items c.args.count c.loop.counter c.loop.rest.now _ c.loop-test.false c.loop.invariant
