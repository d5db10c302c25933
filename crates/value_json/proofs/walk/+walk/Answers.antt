use Rattle.std.proofs.Common.{◌≡◌, List, map, length, refl, sym, ap, ◌∙◌, arith}
use Rattle.std.proofs.lemmas.Grind.{common_steps}
use Rattle.serde_json.specs.View.{view, members_view}
use Rattle.serde_json.proofs.Views.{Entry as NameValue}
use Rattle.value_json_spec.specs.Answers.{result_map}
use Rattle.value_json_spec.specs.Reading.{fields, walked}
use Rattle.values.specs.Seen.{of_field}
use Rattle.values.specs.declared.val.Field.{Field}
use Rattle.value_json.specs.Ranks.{of_pairs}
use Rattle.value_json.proofs.Steps.{joined, elements_next, joined_none, fields_next, names_next, fields_sorted, untagged, in_pair, pair_done, no_pair, insert_pairs}
use Rattle.value_json.proofs.walk.+walk.Goals as goal
use Rattle.value_json.proofs.walk.+walk.Goals.{object_in-then-len-eq1+in_default, object_in-else-len-eq1}

pub elements_in-returns : goal.elements_in-returns
elements_in-returns t c = rw (← joined_none) (grind (arith, common_steps))

pub elements_in-loop-item-preserved : goal.elements_in-loop-item-preserved
elements_in-loop-item-preserved t c =
    rw c.in_ok-push.ensures.items
    (elements_next c.args.items.now c.loop-item.item-index c.item-item.result c.loop-item.out.items c.in_ok-value_in.field-0 c.loop-item-test.true c.item-item.is c.in_ok-value_in.ensures c.loop-item.invariant)

pub object_in-returns : goal.object_in-returns
object_in-returns t c =
    let other : length c.args.members.now.entries ≡ 1 → ⊥ =
    elim c.if-len-eq1.branch [
      | object_in-then-len-eq1+in_default w ↦ λ h. let none = ap length (sym w.iter.ensures.rest ∙ w.in_default.ensures.steps.0) in absurd (omega arith)
      | object_in-else-len-eq1 w ↦ λ h. w.if-len-eq1.false (c.len.ensures.len ∙ h)
    ] in
    rw (untagged c.args.members.now.entries other) c.plain_object.ensures

pub fields_in-returns-clause-given : goal.fields_in-returns-clause-given
fields_in-returns-clause-given t c =
    rw (← joined_none) (c.loop-name.invariant.given ∙ ap (λ (es : List NameValue). result_map (joined (map of_field c.loop-name.out.items)) (fields (members_view es))) c.in-None.ensures.steps.0)

pub fields_in-returns-clause-sorted : goal.fields_in-returns-clause-sorted
fields_in-returns-clause-sorted t c = fields_sorted c.args.members.now.entries c.loop-name.name-iterator c.loop-name.out.items c.len.ensures.ordered c.loop-name.invariant.names c.in-None.ensures.steps.0

pub fields_in-loop-name-preserved : goal.fields_in-loop-name-preserved
fields_in-loop-name-preserved t c =
    let here = c.loop-name.name-iterator in
    let next = c.next.new.self in
    let named = rw c.as_str.ensures.value at c.in_ok-key.ensures in
    let f : Field = record { key = c.in_ok-key.key; value = c.in_ok-value.value } in
    rw c.in_ok-push.ensures.items (record {
      given = fields_next here next c.in-Some.name.now c.in-Some.value.now c.loop-name.out.items c.in_ok-key.key c.in_ok-value.value f _ c.in-Some.ensures.steps refl refl named c.in_ok-value.ensures c.loop-name.invariant.given;
      names = names_next here next c.in-Some.name.now c.in-Some.value.now c.loop-name.out.items c.in_ok-key.key f _ c.in-Some.ensures.steps refl named c.loop-name.invariant.names;
    })

pub add_items-returns : goal.add_items-returns
add_items-returns t c =
    rw (in_pair c.args.items.now c.index-items-0.result c.index-items-1.result (of_pairs c.args.found.now.entries) c.if-items-ne2.false c.index-items-0.is c.index-items-1.is) c.add_entry.ensures

pub add_items-returns-then-items-ne2 : goal.add_items-returns-then-items-ne2
add_items-returns-then-items-ne2 t c = no_pair c.args.items.now (of_pairs c.args.found.now.entries) c.if-items-ne2.true

pub add_entry-returns : goal.add_entry-returns
add_entry-returns t c =
    rw (c.in_ok-insert.ensures.entries, insert_pairs)
    (pair_done (view c.args.key.now) (walked (view c.args.value.now)) (of_pairs c.args.found.now.entries) c.in_ok-key.key.key c.in_ok-value.value c.in_ok-key.ensures c.in_ok-value.ensures)
