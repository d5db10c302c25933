use Rattle.std.proofs.Common.{◌≡◌, ◌++◌, map, drop}
use Rattle.node_store.specs.Paged.{rows_at}
use Rattle.node_store.specs.Unfolds.{row_key}
use Rattle.node_store.proofs.unfold.unfold_members.Given as goal

abbrev pub invariant-loop-i : goal.invariant-loop-i
invariant-loop-i l = l.out.items ++ map row_key (drop l.i (rows_at l.store l.id)) ≡ map row_key (rows_at l.store l.id)
