use Rattle.std.proofs.Common.{◌≡◌, ℕ, drop}
use Rattle.std.specs.Ordering.{nat_cmp}
use Rattle.std.specs.BTreeMap.{get}
use Rattle.script_names.specs.Slots.{declarations, slots}
use Rattle.js_slots.specs.Numbers.{slot_at}
use Rattle.js_slots.specs.First.{or_first}
use Rattle.js_slots.proofs.Numbers.{numbered}
use Rattle.js_slots.proofs.slots.Slots.of.Given as goal

abbrev pub invariant-loop-n : goal.invariant-loop-n
invariant-loop-n l = (token : ℕ) → or_first (get nat_cmp l.numbers token) (slot_at (numbered (declarations l.found) (drop l.n-index l.found)) token) ≡ slot_at (slots l.found) token
