use Rattle.js_slots.proofs.Numbers.{Goes}
use Rattle.js_slots.proofs.all.number.Given as goal

abbrev pub invariant-loop-names : goal.invariant-loop-names
invariant-loop-names l = Goes l.found l.names-index l.all.items
