use Rattle.std.proofs.Common.{◌≡◌, ◌++◌, map, length}
use Rattle.std.specs.Prelude.{IsTrue}
use Rattle.std.specs.Vec.Iter.{into_iter_items, into_iter_len}
use Rattle.host_machine.specs.Flat.{is_flat_table}
use Rattle.host_engine.specs.Drafts.{plain_rows}
use Rattle.host_engine.specs.Frozen.{key_of, cell_of}
use Rattle.host_engine.proofs.change.parts_of.Given as goal

-- what was taken and the rows left give all
abbrev pub invariant-loop-key : goal.invariant-loop-key
invariant-loop-key l = let rest = plain_rows (into_iter_items l.key-iterator) in record {
  keys : l.keys.items ++ map key_of rest ≡ map key_of (plain_rows l.fn.rows.items);
  cells : l.cells.items ++ map cell_of rest ≡ map cell_of (plain_rows l.fn.rows.items);
  flat : IsTrue (is_flat_table rest);
  len : length (into_iter_items l.key-iterator) ≡ into_iter_len l.key-iterator;
}
