use Rattle.node_store.specs.Paged.{states}
use Rattle.std.proofs.Common.{◌≡◌, ◌≤◌, ◌++◌, map, drop}
use Rattle.std.specs.Vec.{vec_capacity, vec_len}
use Rattle.host_engine.specs.Kept.{of_field, table_at}
use Rattle.host_engine.proofs.fields.fields_at.Given as goal

-- what was read and the entries left give all, and there is room
abbrev pub invariant-loop-i : goal.invariant-loop-i
invariant-loop-i l = let es = table_at (states l.store) l.root in record {
  done : map of_field l.out.items ++ drop l.i es ≡ es;
  len : vec_len l.out ≡ l.i;
  room : l.count ≤ vec_capacity l.out;
}
