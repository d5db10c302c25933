use Rattle.std.proofs.Common.{◌+◌, ap, refl, arith, drop, map, ◌∙◌}
use Rattle.value_model.specs.declared.key.Key.TheVariants as key
use Rattle.value_model.specs.declared.kind.Kind.TheVariants as kind
use Rattle.std.specs.FinMap.Entries.{is_sorted}
use Rattle.value_model.specs.Order.{key_cmp}
use Rattle.value_model.proofs.Steps.{list_of_entries}
use Rattle.values.proofs.Fits.{fields_fit, items_fit, entries_fit}
use Rattle.values.specs.Seen.{of_field, of_item, of_entry, of_fields, of_items, of_entries}
use Rattle.draft_literals.proofs.MakingLaws.{next_is, none_left, making_room, making_next, made_all, values_fall, container_ok, container_room}
use Rattle.draft_literals.proofs.making.+literals.Goals as goal

-- ---- literal_fields
pub literal_fields-literals-requires : goal.literal_fields-literals-requires
literal_fields-literals-requires t c =
    let xs = c.args.fields.now.items in
    let i = c.loop-f.f-index in
    let x = c.f-item.result in
    let rest = of_fields (drop (i + 1) xs) in
    let e = next_is of_field xs c.deref-f-items.result.now i x c.deref-f-items.ensures.value c.loop-f-test.true c.f-item.is in
    let falls = (values_fall (key.Text x.key) x.value rest (of_fields (drop i xs)) (of_fields xs) e c.loop-f.invariant.fewer).below in
    (omega (arith, falls), making_room c.args.scope c.args.first (of_fields xs) c.args.out.now.items c.loop-f.out.items c.loop-f.table.items (key.Text x.key) x.value rest (of_fields (drop i xs)) e c.loop-f.invariant.making)

pub literal_fields-loop-f-preserved : goal.literal_fields-loop-f-preserved
literal_fields-loop-f-preserved t c =
    let xs = c.args.fields.now.items in
    let i = c.loop-f.f-index in
    let x = c.f-item.result in
    let rest = of_fields (drop (i + 1) xs) in
    let e = next_is of_field xs c.deref-f-items.result.now i x c.deref-f-items.ensures.value c.loop-f-test.true c.f-item.is in
    record {
      making = making_next c.args.scope c.args.first (of_fields xs) c.args.out.now.items c.loop-f.out.items c.literals.new.out.items c.loop-f.table.items c.push.new.self.items (key.Text x.key) (key.Text c.in_ok-copy.field-0) x.value rest (of_fields (drop i xs)) c.in_ok-value.value e c.loop-f.invariant.making c.in_ok-value.ensures (ap key.Text c.in_ok-copy.ensures) c.in_ok-push.ensures.items;
      fewer = (values_fall (key.Text x.key) x.value rest (of_fields (drop i xs)) (of_fields xs) e c.loop-f.invariant.fewer).rest;
    }

pub literal_fields-returns : goal.literal_fields-returns
literal_fields-returns t c =
    let xs = c.args.fields.now.items in
    let i = c.loop-f.f-index in
    made_all c.args.scope c.args.first (of_fields xs) c.args.out.now.items c.loop-f.out.items c.loop-f.table.items (of_fields (drop i xs)) (none_left of_field xs c.deref-f-items.result.now i c.deref-f-items.ensures.value c.loop-f-test.false) c.loop-f.invariant.making

-- ---- literal_object
pub literal_object-object-requires : goal.literal_object-object-requires
literal_object-object-requires t c = container_room c.args.scope c.args.first (of_fields c.args.fields.now.items) c.args.out.now.items c.literal_fields.new.out.items c.in_ok-table.table.items c.in_ok-table.ensures c.requires.room

pub literal_object-returns : goal.literal_object-returns
literal_object-returns t c = container_ok c.object.result c.args.scope c.args.first kind.Obj (of_fields c.args.fields.now.items) c.args.out.now.items c.literal_fields.new.out.items c.object.new.out.items c.in_ok-table.table.items (ap (is_sorted key_cmp) (list_of_entries (map of_field c.args.fields.now.items)) ∙ c.requires.sorted) (fields_fit c.args.fields.now.items) c.in_ok-table.ensures c.object.ensures

-- ---- literal_items
pub literal_items-literals-requires : goal.literal_items-literals-requires
literal_items-literals-requires t c =
    let xs = c.args.items.now.items in
    let i = c.loop-v.v-index in
    let x = c.v-item.result in
    let rest = of_items (drop (i + 1) xs) in
    let e = next_is of_item xs c.deref-v-items.result.now i x c.deref-v-items.ensures.value c.loop-v-test.true c.v-item.is in
    let falls = (values_fall key.Null x rest (of_items (drop i xs)) (of_items xs) e c.loop-v.invariant.fewer).below in
    (omega (arith, falls), making_room c.args.scope c.args.first (of_items xs) c.args.out.now.items c.loop-v.out.items c.loop-v.table.items key.Null x rest (of_items (drop i xs)) e c.loop-v.invariant.making)

pub literal_items-loop-v-preserved : goal.literal_items-loop-v-preserved
literal_items-loop-v-preserved t c =
    let xs = c.args.items.now.items in
    let i = c.loop-v.v-index in
    let x = c.v-item.result in
    let rest = of_items (drop (i + 1) xs) in
    let e = next_is of_item xs c.deref-v-items.result.now i x c.deref-v-items.ensures.value c.loop-v-test.true c.v-item.is in
    record {
      making = making_next c.args.scope c.args.first (of_items xs) c.args.out.now.items c.loop-v.out.items c.literals.new.out.items c.loop-v.table.items c.push.new.self.items key.Null key.Null x rest (of_items (drop i xs)) c.in_ok-value.value e c.loop-v.invariant.making c.in_ok-value.ensures (refl) c.in_ok-push.ensures.items;
      fewer = (values_fall key.Null x rest (of_items (drop i xs)) (of_items xs) e c.loop-v.invariant.fewer).rest;
    }

pub literal_items-returns : goal.literal_items-returns
literal_items-returns t c =
    let xs = c.args.items.now.items in
    let i = c.loop-v.v-index in
    made_all c.args.scope c.args.first (of_items xs) c.args.out.now.items c.loop-v.out.items c.loop-v.table.items (of_items (drop i xs)) (none_left of_item xs c.deref-v-items.result.now i c.deref-v-items.ensures.value c.loop-v-test.false) c.loop-v.invariant.making

-- ---- literal_list
pub literal_list-object-requires : goal.literal_list-object-requires
literal_list-object-requires t c = container_room c.args.scope c.args.first (of_items c.args.items.now.items) c.args.out.now.items c.literal_items.new.out.items c.in_ok-table.table.items c.in_ok-table.ensures c.requires

pub literal_list-returns : goal.literal_list-returns
literal_list-returns t c = container_ok c.object.result c.args.scope c.args.first kind.List (of_items c.args.items.now.items) c.args.out.now.items c.literal_items.new.out.items c.object.new.out.items c.in_ok-table.table.items refl (items_fit c.args.items.now.items) c.in_ok-table.ensures c.object.ensures

-- ---- literal_entries
pub literal_entries-literals-requires : goal.literal_entries-literals-requires
literal_entries-literals-requires t c =
    let xs = c.args.entries.now.items in
    let i = c.loop-e.e-index in
    let x = c.e-item.result in
    let rest = of_entries (drop (i + 1) xs) in
    let e = next_is of_entry xs c.deref-e-items.result.now i x c.deref-e-items.ensures.value c.loop-e-test.true c.e-item.is in
    let falls = (values_fall x.key x.value rest (of_entries (drop i xs)) (of_entries xs) e c.loop-e.invariant.fewer).below in
    (omega (arith, falls), making_room c.args.scope c.args.first (of_entries xs) c.args.out.now.items c.loop-e.out.items c.loop-e.table.items x.key x.value rest (of_entries (drop i xs)) e c.loop-e.invariant.making)

pub literal_entries-loop-e-preserved : goal.literal_entries-loop-e-preserved
literal_entries-loop-e-preserved t c =
    let xs = c.args.entries.now.items in
    let i = c.loop-e.e-index in
    let x = c.e-item.result in
    let rest = of_entries (drop (i + 1) xs) in
    let e = next_is of_entry xs c.deref-e-items.result.now i x c.deref-e-items.ensures.value c.loop-e-test.true c.e-item.is in
    record {
      making = making_next c.args.scope c.args.first (of_entries xs) c.args.out.now.items c.loop-e.out.items c.literals.new.out.items c.loop-e.table.items c.push.new.self.items x.key c.in_ok-copy.field-0 x.value rest (of_entries (drop i xs)) c.in_ok-value.value e c.loop-e.invariant.making c.in_ok-value.ensures (c.in_ok-copy.ensures) c.in_ok-push.ensures.items;
      fewer = (values_fall x.key x.value rest (of_entries (drop i xs)) (of_entries xs) e c.loop-e.invariant.fewer).rest;
    }

pub literal_entries-returns : goal.literal_entries-returns
literal_entries-returns t c =
    let xs = c.args.entries.now.items in
    let i = c.loop-e.e-index in
    made_all c.args.scope c.args.first (of_entries xs) c.args.out.now.items c.loop-e.out.items c.loop-e.table.items (of_entries (drop i xs)) (none_left of_entry xs c.deref-e-items.result.now i c.deref-e-items.ensures.value c.loop-e-test.false) c.loop-e.invariant.making

-- ---- literal_map
pub literal_map-object-requires : goal.literal_map-object-requires
literal_map-object-requires t c = container_room c.args.scope c.args.first (of_entries c.args.entries.now.items) c.args.out.now.items c.literal_entries.new.out.items c.in_ok-table.table.items c.in_ok-table.ensures c.requires.room

pub literal_map-returns : goal.literal_map-returns
literal_map-returns t c = container_ok c.object.result c.args.scope c.args.first kind.Map (of_entries c.args.entries.now.items) c.args.out.now.items c.literal_entries.new.out.items c.object.new.out.items c.in_ok-table.table.items (ap (is_sorted key_cmp) (list_of_entries (map of_entry c.args.entries.now.items)) ∙ c.requires.sorted) (entries_fit c.args.entries.now.items) c.in_ok-table.ensures c.object.ensures
