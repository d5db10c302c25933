use Rattle.std.proofs.Common.{sym, ap, ◌∙◌}
use Rattle.std.specs.Prelude.{is_some}
use Rattle.value_json.specs.Ranks.{of_marks}
use Rattle.value_json.proofs.Steps.{set_next, set_twice, found_marks, insert_marks}
use Rattle.value_json.proofs.walk.marks_in.Goals as goal

pub returns-then-is_some : goal.returns-then-is_some
returns-then-is_some c =
    set_twice c.args.items.now c.loop-item.item-index c.item-item.result (of_marks c.loop-item.found.entries) c.in_ok-key_in.field-0 _ c.loop-item-test.true c.item-item.is
    c.in_ok-key_in.ensures (sym (found_marks (record { key = c.in_ok-key_in.field-0 }) c.loop-item.found.entries) ∙ ap is_some (sym c.in_ok-insert.ensures.old) ∙ sym c.is_some.ensures ∙ c.if-is_some.true) c.loop-item.invariant

pub loop-item-preserved : goal.loop-item-preserved
loop-item-preserved c =
    rw (c.in_ok-insert.ensures.entries, insert_marks)
    (set_next c.args.items.now c.loop-item.item-index c.item-item.result (of_marks c.loop-item.found.entries) c.in_ok-key_in.field-0 _ c.loop-item-test.true c.item-item.is
    c.in_ok-key_in.ensures (sym (found_marks (record { key = c.in_ok-key_in.field-0 }) c.loop-item.found.entries) ∙ ap is_some (sym c.in_ok-insert.ensures.old) ∙ sym c.is_some.ensures ∙ c.if-is_some.false) c.loop-item.invariant)
