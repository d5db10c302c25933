use Rattle.std.proofs.Common.{◌≡◌, ◌++◌, drop}
use Rattle.guards_views.proofs.grants.copy_path.Given as goal

abbrev pub invariant-loop-k : goal.invariant-loop-k
invariant-loop-k l = l.out.items ++ drop l.k-index l.path ≡ l.path
