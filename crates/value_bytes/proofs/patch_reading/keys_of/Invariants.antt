use Rattle.std.proofs.Common.{◌≡◌, ◌-◌}
use Rattle.value_bytes_spec.specs.Reading.{keys_at}
use Rattle.value_bytes.specs.Runs.{with_front}
use Rattle.value_bytes.proofs.patch_reading.keys_of.Given as goal

abbrev pub invariant-loop : goal.invariant-loop
invariant-loop l = with_front l.keys.items (keys_at (l.count - l.counter) l.rest) ≡ keys_at l.count l.bytes
