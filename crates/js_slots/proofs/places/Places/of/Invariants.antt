use Rattle.std.proofs.Common.{◌≡◌, ℕ, ◌+◌, ◌≤◌, drop, length}
use Rattle.std.specs.Ordering.{nat_cmp}
use Rattle.std.specs.BTreeMap.{get}
use Rattle.script_names.specs.Slots.{declarations, place}
use Rattle.js_slots.specs.Numbers.{or_count}
use Rattle.js_slots.proofs.places.Places.of.Given as goal

abbrev pub invariant-loop-n : goal.invariant-loop-n
invariant-loop-n l = record {
  places : (d : ℕ) → or_count (get nat_cmp l.numbers d) (l.count + place (declarations (drop l.n-index l.found)) d) ≡ place (declarations l.found) d;
  count : l.count + length (declarations (drop l.n-index l.found)) ≡ length (declarations l.found);
  small : l.count ≤ l.n-index;
}
