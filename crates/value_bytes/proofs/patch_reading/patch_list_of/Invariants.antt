use Rattle.std.proofs.Common.{◌≡◌, ◌-◌}
use Rattle.value_bytes_spec.specs.Reading.{patch_list_at}
use Rattle.value_bytes.specs.Runs.{with_front}
use Rattle.value_bytes.proofs.patch_reading.patch_list_of.Given as goal

abbrev pub invariant-loop : goal.invariant-loop
invariant-loop l = with_front l.list.items (patch_list_at (l.count - l.counter) l.rest) ≡ patch_list_at l.count l.bytes
