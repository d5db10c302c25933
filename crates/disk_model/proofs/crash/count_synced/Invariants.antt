use Rattle.std.proofs.Common.{◌≡◌, ◌≤◌, ◌+◌, nat_lt, if◌then◌else◌, drop}
use Rattle.disk_model.specs.Crash.{synced_count}
use Rattle.disk_model.proofs.crash.count_synced.Given as goal

abbrev pub invariant-loop-i : goal.invariant-loop-i
invariant-loop-i l = record {
  within : l.count ≤ l.i;
  rest : synced_count l.calls ≡ (if nat_lt 0 (synced_count (drop l.i l.calls)) then l.i + synced_count (drop l.i l.calls) else l.count);
}
