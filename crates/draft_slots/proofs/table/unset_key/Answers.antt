use Rattle.std.proofs.Common.{◌∙◌, sym}
use Rattle.value_model.specs.declared.key.Key.{Key}
use Rattle.run_heap.specs.declared.value.Rv.{Rv}
use Rattle.run_heap.specs.declared.value.Rv.TheVariants.{Undefined}
use Rattle.draft_slots.proofs.Tables.{remove_in_place, removed_differs, absent_leaves, absent_same_tables}
use Rattle.draft_slots.proofs.table.unset_key.Goals as goal

pub returns-in-Ok-clause-table : goal.returns-in-Ok-clause-table
returns-in-Ok-clause-table c = rw c.table.view_is at c.remove.ensures.items ∙ remove_in_place c.args.key.now c.args.table.now c.in-Ok.at c.remove.result (rw c.as_slice.ensures at c.in-Ok.ensures) c.requires

pub returns-in-Ok-clause-differs : goal.returns-in-Ok-clause-differs
returns-in-Ok-clause-differs c = removed_differs c.args.key.now c.args.table.now c.in-Ok.at c.remove.result (rw c.as_slice.ensures at c.in-Ok.ensures) c.requires

pub returns-in-Err-clause-table : goal.returns-in-Err-clause-table
returns-in-Err-clause-table c = sym (absent_leaves c.args.key.now c.args.table.now c.in-Err.field-0 (let e : Key × Rv = (c.args.key.now, Undefined) in e) (rw c.as_slice.ensures at c.in-Err.ensures) c.requires)

pub returns-in-Err-clause-differs : goal.returns-in-Err-clause-differs
returns-in-Err-clause-differs c = absent_same_tables c.args.key.now c.args.table.now (absent_leaves c.args.key.now c.args.table.now c.in-Err.field-0 (let e : Key × Rv = (c.args.key.now, Undefined) in e) (rw c.as_slice.ensures at c.in-Err.ensures) c.requires)
