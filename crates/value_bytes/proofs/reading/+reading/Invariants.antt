use Rattle.std.proofs.Common.{◌≡◌, ◌-◌, ◌+◌, ◌*◌, None, map}
use Rattle.value_model.specs.declared.kind.Kind.TheVariants as kind
use Rattle.values.specs.Seen.{of_field, of_entry, of_item}
use Rattle.value_bytes_spec.specs.Reading.{entries_at, nested_at}
use Rattle.value_bytes.specs.Runs.{last_key, with_front}
use Rattle.value_bytes.proofs.reading.+reading.Given as goal

-- each level that is left has a turn of every function
abbrev pub decreases-nested_of : goal.decreases-nested_of
decreases-nested_of l = 8 * l.levels

abbrev pub decreases-within : goal.decreases-within
decreases-within l = 8 * l.inner + 7

abbrev pub decreases-node_of : goal.decreases-node_of
decreases-node_of l = 8 * l.inner + 6

abbrev pub decreases-fields_of : goal.decreases-fields_of
decreases-fields_of l = 8 * l.inner + 5

abbrev pub decreases-field_of : goal.decreases-field_of
decreases-field_of l = 8 * l.inner + 4

abbrev pub decreases-items_of : goal.decreases-items_of
decreases-items_of l = 8 * l.inner + 5

abbrev pub decreases-entries_of : goal.decreases-entries_of
decreases-entries_of l = 8 * l.inner + 5

abbrev pub decreases-entry_of : goal.decreases-entry_of
decreases-entry_of l = 8 * l.inner + 4

-- what was read so far and what is still read are what all the bytes read as
abbrev pub invariant-fields_of-loop : goal.invariant-fields_of-loop
invariant-fields_of-loop l = let front = map of_field l.fields.items in
    with_front front (entries_at kind.Obj (nested_at l.inner) (l.count - l.counter) (last_key front) l.rest) ≡ entries_at kind.Obj (nested_at l.inner) l.count None l.bytes

abbrev pub invariant-items_of-loop : goal.invariant-items_of-loop
invariant-items_of-loop l = let front = map of_item l.items.items in
    with_front front (entries_at kind.List (nested_at l.inner) (l.count - l.counter) (last_key front) l.rest) ≡ entries_at kind.List (nested_at l.inner) l.count None l.bytes

abbrev pub invariant-entries_of-loop : goal.invariant-entries_of-loop
invariant-entries_of-loop l = let front = map of_entry l.entries.items in
    with_front front (entries_at kind.Map (nested_at l.inner) (l.count - l.counter) (last_key front) l.rest) ≡ entries_at kind.Map (nested_at l.inner) l.count None l.bytes
