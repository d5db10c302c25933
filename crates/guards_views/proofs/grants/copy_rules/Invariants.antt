use Rattle.std.proofs.Common.{◌≡◌, ◌++◌, drop}
use Rattle.guards_views.proofs.grants.copy_rules.Given as goal

abbrev pub invariant-loop-r : goal.invariant-loop-r
invariant-loop-r l = l.out.items ++ drop l.r-index l.rules ≡ l.rules
