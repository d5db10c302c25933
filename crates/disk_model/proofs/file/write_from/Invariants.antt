use Rattle.std.proofs.Common.{length, ◌-◌, ◌≤◌}
use Rattle.disk_model.proofs.file.write_from.Given as goal

abbrev pub invariant-loop-count : goal.invariant-loop-count
invariant-loop-count l = l.count ≤ length l.piece

abbrev pub decreases-loop-count : goal.decreases-loop-count
decreases-loop-count l = length l.piece - l.count
