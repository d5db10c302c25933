use Rattle.std.proofs.Common.{sym, Ok, Err}
use Rattle.value_model.specs.declared.key.Key.{Key}
use Rattle.run_heap.specs.declared.value.Rv.{Rv}
use Rattle.run_heap.specs.declared.value.Rv.TheVariants.{Undefined}
use Rattle.draft_slots.proofs.Tables.{position_at}
use Rattle.draft_slots.proofs.table.position.Goals as goal

pub returns-in-Ok : goal.returns-in-Ok
returns-in-Ok c = sym (position_at c.args.key.now c.args.entries.now (Ok c.in-Ok.at) (let e : Key × Rv = (c.args.key.now, Undefined) in e) c.requires c.in-Ok.ensures)

pub returns-in-Err : goal.returns-in-Err
returns-in-Err c = sym (position_at c.args.key.now c.args.entries.now (Err c.in-Err.field-0) (let e : Key × Rv = (c.args.key.now, Undefined) in e) c.requires c.in-Err.ensures)
