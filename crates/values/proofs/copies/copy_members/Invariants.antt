use Rattle.std.proofs.Common.{◌≡◌, ◌++◌, drop}
use Rattle.values.proofs.copies.copy_members.Given as goal

abbrev pub invariant-loop-k : goal.invariant-loop-k
invariant-loop-k l = l.out.items ++ drop l.k-index l.members.items ≡ l.members.items
