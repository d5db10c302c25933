use Rattle.std.proofs.Common.{◌≡◌, ◌-◌, None, map}
use Rattle.value_model.specs.declared.kind.Kind.TheVariants as kind
use Rattle.values.specs.Seen.{of_member}
use Rattle.value_bytes_spec.specs.Reading.{entries_at, nested_at}
use Rattle.value_bytes.specs.Runs.{last_key, with_front}
use Rattle.value_bytes.proofs.reading.members_of.Given as goal

-- the members so far and those that are still read are what all the bytes read as
abbrev pub invariant-loop : goal.invariant-loop
invariant-loop l = let front = map of_member l.members.items in
    with_front front (entries_at kind.Set (nested_at l.inner) (l.count - l.counter) (last_key front) l.rest) ≡ entries_at kind.Set (nested_at l.inner) l.count None l.bytes
