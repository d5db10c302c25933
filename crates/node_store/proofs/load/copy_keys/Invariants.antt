use Rattle.std.proofs.Common.{◌≡◌, ◌++◌, drop}
use Rattle.node_store.proofs.load.copy_keys.Given as goal

abbrev pub invariant-loop-key : goal.invariant-loop-key
invariant-loop-key l = l.out.items ++ drop l.key-index l.keys.items ≡ l.keys.items
