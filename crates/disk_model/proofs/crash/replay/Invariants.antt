use Rattle.std.proofs.Common.{◌≡◌, drop}
use Rattle.disk_model.specs.Memory.{after_calls}
use Rattle.disk_model.proofs.crash.replay.Given as goal

abbrev pub invariant-loop-call : goal.invariant-loop-call
invariant-loop-call l = after_calls l.bytes.items (drop l.call-index l.calls) ≡ after_calls l.first l.calls
