use Rattle.draft_slots.proofs.Tables.{set_leaves, insert_leaves, place_key}
use Rattle.draft_slots.proofs.table.set_key.Goals as goal

pub set_entry-requires-clause-same_key : goal.set_entry-requires-clause-same_key
set_entry-requires-clause-same_key c = place_key c.args.key c.args.table.now c.in-Ok.at (rw c.as_slice.ensures at c.in-Ok.ensures)

pub returns-in-Ok : goal.returns-in-Ok
returns-in-Ok c = set_leaves c.args.key c.args.value c.args.table.now c.set_entry.new.table c.in-Ok.at c.set_entry.result (rw c.as_slice.ensures at c.in-Ok.ensures) c.set_entry.ensures.table c.set_entry.ensures.differs

pub returns-in_ok-insert-in-Err : goal.returns-in_ok-insert-in-Err
returns-in_ok-insert-in-Err c = insert_leaves c.args.key c.args.value c.args.table.now c.insert.new.self.items c.in-Err.at (rw c.as_slice.ensures at c.in-Err.ensures) (rw c.table.view_is at c.in_ok-insert-in-Err.ensures.items)
