use Rattle.std.proofs.Common.{◌≡◌, ◌++◌, drop}
use Rattle.disk_model.specs.Crash.{are_covered, filled_from}
use Rattle.disk_model.proofs.crash.fill.Given as goal

abbrev pub invariant-loop-i : goal.invariant-loop-i
invariant-loop-i l = l.image.items ++ filled_from l.i (are_covered l.calls) l.byte (drop l.i l.bytes) ≡ filled_from 0 (are_covered l.calls) l.byte l.bytes
