use Rattle.std.proofs.Common.{◌≡◌, ◌≤◌, ◌++◌, map, drop, length}
use Rattle.std.specs.Prelude.{IsTrue}
use Rattle.std.specs.Vec.{vec_capacity, vec_len}
use Rattle.host_machine.specs.Flat.{is_flat_table}
use Rattle.host_engine.specs.Drafts.{plain_rows}
use Rattle.host_engine.specs.Kept.{of_field}
use Rattle.host_engine.proofs.fields.fields_of.Given as goal

-- what was read and the rows left give all, and there is room
abbrev pub invariant-loop-row : goal.invariant-loop-row
invariant-loop-row l = let rest = plain_rows (drop l.row-index l.rows) in record {
  done : map of_field l.out.items ++ rest ≡ plain_rows l.rows;
  flat : IsTrue (is_flat_table rest);
  len : vec_len l.out ≡ l.row-index;
  room : length l.rows ≤ vec_capacity l.out;
}
