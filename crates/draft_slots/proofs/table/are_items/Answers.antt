use Rattle.draft_slots.proofs.Tables.{items_length}
use Rattle.draft_slots.proofs.table.are_items.Goals as goal

pub returns-then-entries-items : goal.returns-then-entries-items
returns-then-entries-items c = items_length c.args.entries.now c.args.items.now c.if-entries-items.true
