use Rattle.std.proofs.Common.{◌≡◌, ◌+◌, drop}
use Rattle.node_store.specs.Sums.{key_sum}
use Rattle.node_store.proofs.tally.sum_of_keys.Given as goal

abbrev pub invariant-loop-key : goal.invariant-loop-key
invariant-loop-key l = l.total + key_sum (drop l.key-index l.keys) ≡ key_sum l.keys
