use Rattle.std.proofs.Common.{◌≡◌, drop}
use Rattle.disk_model.specs.Crash.{are_covered}
use Rattle.disk_model.proofs.crash.is_covered.Given as goal

abbrev pub invariant-loop-call : goal.invariant-loop-call
invariant-loop-call l = are_covered (drop l.call-index l.calls) l.place ≡ are_covered l.calls l.place
