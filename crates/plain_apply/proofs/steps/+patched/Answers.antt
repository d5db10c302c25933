use Rattle.std.proofs.Common.{◌≡◌, ◌<◌, length, refl, map, false, sym, ap, ◌∙◌, drop, pos, arith}
use Rattle.patch_meaning.specs.Applying.{patched}
use Rattle.value_model.specs.Limits.{is_reserved_text}
use Rattle.value_model.proofs.Steps.{list_of_entries}
use Rattle.value_model.proofs.Tables.{put_ascends}
use Rattle.value_model.specs.declared.key.Key.TheVariants as key
use Rattle.value_model.specs.declared.kind.Kind.TheVariants as kind
use Rattle.values.specs.Seen.{of_field, of_fields, of_entry, of_entries, of_item, of_items}
use Rattle.values.specs.declared.val.Entry.{Entry}
use Rattle.values.specs.declared.val.Field.{Field}
use Rattle.plain_apply.proofs.Down.{goes_down, no_text, no_name, field_child, field_done, no_entry, entry_child, entry_done, item_child, item_done, fails_child, put_changed}
use Rattle.plain_apply.proofs.steps.+patched.Goals as goal

pub inside-returns-in-Obj : goal.inside-returns-in-Obj
inside-returns-in-Obj t c =
    rw (← c.here.view_is, c.in-Obj.is, goes_down c.args.op c.args.value.now kind.Obj (of_fields c.in-Obj.fields.items) c.args.path.now c.args.at c.index-path-at.result c.requires, ← c.index-path-at.is, list_of_entries)
    (rw c.in-Obj.fields-is at c.inside_object.ensures)

pub inside-returns-in-List : goal.inside-returns-in-List
inside-returns-in-List t c =
    rw (← c.here.view_is, c.in-List.is, goes_down c.args.op c.args.value.now kind.List (of_items c.in-List.items.items) c.args.path.now c.args.at c.index-path-at.result c.requires, ← c.index-path-at.is, list_of_entries)
    (rw c.in-List.items-is at c.inside_list.ensures)

pub inside-returns : goal.inside-returns
inside-returns t c =
    rw (← c.here.view_is, c.in-Map.is, goes_down c.args.op c.args.value.now kind.Map (of_entries c.in-Map.entries.items) c.args.path.now c.args.at c.index-path-at.result c.requires, ← c.index-path-at.is, list_of_entries)
    (rw c.in-Map.entries-is at c.inside_map.ensures)

pub inside_object-returns-in_default : goal.inside_object-returns-in_default
inside_object-returns-in_default t c = no_text c.args.op c.args.value.now c.args.step.now (drop c.args.next c.args.path.now) c.args.fields.items c.in_default.not-Text

pub inside_field-returns-in_default : goal.inside_field-returns-in_default
inside_field-returns-in_default t c =
    let place = rw c.deref.ensures.value at c.in_default.ensures in
    let free : is_reserved_text c.args.name.now ≡ false = sym c.is_reserved.ensures ∙ c.if-is_reserved.false in
    no_name c.args.op c.args.value.now (drop c.args.next c.args.path.now) c.args.name.now c.args.fields.items c.in_default.field-0 free place c.requires

pub inside_field-invariant_of-result : goal.inside_field-invariant_of-result
inside_field-invariant_of-result t c =
    let place = rw c.deref.ensures.value at c.in-Ok.ensures in
    let new : Field = record { key = c.remove-key.result.key; value = c.in-Ok-patched.value } in
    rw (
      c.in_ok-insert-in-Ok-patched.ensures.items,
      c.remove-key.ensures.items,
      ← put_changed of_field (patched c.args.op c.args.value.now (drop c.args.next c.args.path.now)) (key.Text c.args.name.now) c.args.fields.items c.in-Ok.i c.remove-key.result new place c.remove-key.ensures.value refl,
    )
    (put_ascends (key.Text c.args.name.now) c.in-Ok-patched.value (map of_field c.args.fields.items) c.requires)

pub inside_field-returns-in_ok-insert-in-Ok-patched : goal.inside_field-returns-in_ok-insert-in-Ok-patched
inside_field-returns-in_ok-insert-in-Ok-patched t c =
    let place = rw c.deref.ensures.value at c.in-Ok.ensures in
    let free : is_reserved_text c.args.name.now ≡ false = sym c.is_reserved.ensures ∙ c.if-is_reserved.false in
    rw (c.in_ok-insert-in-Ok-patched.ensures.items, c.remove-key.ensures.items)
    (field_done c.args.op c.args.value.now (drop c.args.next c.args.path.now) c.args.name.now c.args.fields.items c.in-Ok.i c.remove-key.result c.in-Ok-patched.value free place c.remove-key.ensures.value c.in-Ok-patched.ensures)

pub inside_field-returns-in-Err : goal.inside_field-returns-in-Err
inside_field-returns-in-Err t c =
    let place = rw c.deref.ensures.value at c.in-Ok.ensures in
    let free : is_reserved_text c.args.name.now ≡ false = sym c.is_reserved.ensures ∙ c.if-is_reserved.false in
    rw (field_child c.args.op c.args.value.now (drop c.args.next c.args.path.now) c.args.name.now c.args.fields.items c.in-Ok.i c.remove-key.result free place c.remove-key.ensures.value)
    (fails_child c.in-Err.fault kind.Obj (key.Text c.args.name.now) (map of_field c.args.fields.items) _ c.in-Err.ensures)

pub inside_map-returns-in_default : goal.inside_map-returns-in_default
inside_map-returns-in_default t c =
    let place = rw c.deref.ensures.value at c.in_default.ensures in
    no_entry c.args.op c.args.value.now (drop c.args.next c.args.path.now) c.args.step.now c.args.entries.items c.in_default.field-0 place c.requires

pub inside_map-invariant_of-result : goal.inside_map-invariant_of-result
inside_map-invariant_of-result t c =
    let place = rw c.deref.ensures.value at c.in-Ok.ensures in
    let new : Entry = record { key = c.remove-key.result.key; value = c.in-Ok-patched.value } in
    rw (
      c.in_ok-insert-in-Ok-patched.ensures.items,
      c.remove-key.ensures.items,
      ← put_changed of_entry (patched c.args.op c.args.value.now (drop c.args.next c.args.path.now)) c.args.step.now c.args.entries.items c.in-Ok.i c.remove-key.result new place c.remove-key.ensures.value refl,
    )
    (put_ascends c.args.step.now c.in-Ok-patched.value (map of_entry c.args.entries.items) c.requires)

pub inside_map-returns-in_ok-insert-in-Ok-patched : goal.inside_map-returns-in_ok-insert-in-Ok-patched
inside_map-returns-in_ok-insert-in-Ok-patched t c =
    let place = rw c.deref.ensures.value at c.in-Ok.ensures in
    rw (c.in_ok-insert-in-Ok-patched.ensures.items, c.remove-key.ensures.items)
    (entry_done c.args.op c.args.value.now (drop c.args.next c.args.path.now) c.args.step.now c.args.entries.items c.in-Ok.i c.remove-key.result c.in-Ok-patched.value place c.remove-key.ensures.value c.in-Ok-patched.ensures)

pub inside_map-returns-in-Err : goal.inside_map-returns-in-Err
inside_map-returns-in-Err t c =
    let place = rw c.deref.ensures.value at c.in-Ok.ensures in
    rw (entry_child c.args.op c.args.value.now (drop c.args.next c.args.path.now) c.args.step.now c.args.entries.items c.in-Ok.i c.remove-key.result place c.remove-key.ensures.value)
    (fails_child c.in-Err.fault kind.Map c.args.step.now (map of_entry c.args.entries.items) _ c.in-Err.ensures)

pub inside_item-returns-in_ok-insert-in-Ok : goal.inside_item-returns-in_ok-insert-in-Ok
inside_item-returns-in_ok-insert-in-Ok t c =
    let within : c.args.i < length c.args.items.items = omega arith in
    rw (c.in_ok-insert-in-Ok.ensures.items, c.remove-child.ensures.items)
    (item_done c.args.op c.args.value.now (drop c.args.next c.args.path.now) c.args.items.items c.args.i c.remove-child.result c.in-Ok.value within c.remove-child.ensures.value c.in-Ok.ensures)

pub inside_item-returns-in-Err : goal.inside_item-returns-in-Err
inside_item-returns-in-Err t c =
    let within : c.args.i < length c.args.items.items = omega arith in
    rw (item_child c.args.op c.args.value.now (drop c.args.next c.args.path.now) c.args.items.items c.args.i c.remove-child.result within c.remove-child.ensures.value)
    (fails_child c.in-Err.fault kind.List (key.Int (pos c.args.i)) (map of_item c.args.items.items) _ c.in-Err.ensures)
