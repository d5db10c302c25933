use Rattle.std.proofs.Common.{◌≡◌}
use Rattle.collection_examples.proofs.shown.push_entries.Given as goal

abbrev pub invariant-loop-i : goal.invariant-loop-i
invariant-loop-i l = record {
  same : l.scope ≡ l.fn.scope;
}
