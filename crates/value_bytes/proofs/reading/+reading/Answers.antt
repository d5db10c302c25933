use Rattle.std.proofs.Common.{◌≡◌, ◌++◌, ◌∷◌, [], ◌<◌, map, true, false, List, refl, sym, subst, arith}
use Rattle.std.proofs.lemmas.Result.{err_from_is_err_and}
use Rattle.std.proofs.lemmas.List.{map_push}
use Rattle.value_model.specs.declared.key.Key.TheVariants.{Text}
use Rattle.value_model.specs.declared.kind.Kind.TheVariants as kind
use Rattle.values.specs.declared.val.Entry.{Entry}
use Rattle.values.specs.declared.val.Field.{Field}
use Rattle.values.specs.Seen.{of_field, of_entry, of_item, of_member}
use Rattle.value_bytes_spec.proofs.Chains.{read_ascends}
use Rattle.value_bytes_spec.specs.Reading.{nested_at, follows}
use Rattle.value_bytes.specs.Runs.{last_key}
use Rattle.value_bytes.proofs.Loops.{goes_on, refused, ends, is_done, item_read, item_stops, no_level, a_level}
use Rattle.value_bytes.proofs.reading.+reading.Goals as goal

pub fields_of-returns-in_err-field : goal.fields_of-returns-in_err-field
fields_of-returns-in_err-field t c =
    let p = err_from_is_err_and c.from_residual.result c.from_residual.ensures.1 in
    rw (p.1, p.2) (ends c.in_err-field.field-0.0 kind.Obj (nested_at c.args.inner) (map of_field c.loop.fields.items) c.args.count c.loop.counter c.loop.rest.now _ c.loop-test.true c.in_err-field.ensures c.loop.invariant)

pub fields_of-returns-then-not-is_next_field : goal.fields_of-returns-then-not-is_next_field
fields_of-returns-then-not-is_next_field t c =
    let k = c.in_ok-field.field in
    let before : follows kind.Obj (last_key (map of_field c.loop.fields.items)) (Text k.key) ≡ false = sym (subst (λ (ks : List Field). false ≡ follows kind.Obj (last_key (map of_field ks)) (Text k.key)) c.deref.ensures.value c.if-not-is_next_field.ensures) in
    refused kind.Obj (nested_at c.args.inner) (map of_field c.loop.fields.items) c.args.count c.loop.counter c.loop.rest.now (of_field k) c.in_ok-field.after.now _ c.loop-test.true c.in_ok-field.ensures before c.loop.invariant

pub fields_of-loop-preserved : goal.fields_of-loop-preserved
fields_of-loop-preserved t c =
    let k = c.in_ok-field.field in
    let front = map of_field c.loop.fields.items in
    let behind : follows kind.Obj (last_key front) (Text k.key) ≡ true = sym (subst (λ (ks : List Field). true ≡ follows kind.Obj (last_key (map of_field ks)) (Text k.key)) c.deref.ensures.value c.if-not-is_next_field.ensures) in
    let pushed : map of_field c.push.new.self.items ≡ front ++ of_field k ∷ [] = rw c.in_ok-push.ensures.items (map_push of_field c.loop.fields.items k) in
    rw pushed (goes_on kind.Obj (nested_at c.args.inner) front c.args.count c.loop.counter c.loop.rest.now (of_field k) c.in_ok-field.after.now _ c.loop-test.true c.in_ok-field.ensures behind c.loop.invariant)

pub fields_of-returns : goal.fields_of-returns
fields_of-returns t c = is_done kind.Obj (nested_at c.args.inner) (map of_field c.loop.fields.items) c.args.count c.loop.counter c.loop.rest.now _ c.loop-test.false c.loop.invariant

pub entries_of-returns-in_err-entry : goal.entries_of-returns-in_err-entry
entries_of-returns-in_err-entry t c =
    let p = err_from_is_err_and c.from_residual.result c.from_residual.ensures.1 in
    rw (p.1, p.2) (ends c.in_err-entry.field-0.0 kind.Map (nested_at c.args.inner) (map of_entry c.loop.entries.items) c.args.count c.loop.counter c.loop.rest.now _ c.loop-test.true c.in_err-entry.ensures c.loop.invariant)

pub entries_of-returns-then-not-is_next_entry : goal.entries_of-returns-then-not-is_next_entry
entries_of-returns-then-not-is_next_entry t c =
    let k = c.in_ok-entry.entry in
    let before : follows kind.Map (last_key (map of_entry c.loop.entries.items)) k.key ≡ false = sym (subst (λ (ks : List Entry). false ≡ follows kind.Map (last_key (map of_entry ks)) k.key) c.deref.ensures.value c.if-not-is_next_entry.ensures) in
    refused kind.Map (nested_at c.args.inner) (map of_entry c.loop.entries.items) c.args.count c.loop.counter c.loop.rest.now (of_entry k) c.in_ok-entry.after.now _ c.loop-test.true c.in_ok-entry.ensures before c.loop.invariant

pub entries_of-loop-preserved : goal.entries_of-loop-preserved
entries_of-loop-preserved t c =
    let k = c.in_ok-entry.entry in
    let front = map of_entry c.loop.entries.items in
    let behind : follows kind.Map (last_key front) k.key ≡ true = sym (subst (λ (ks : List Entry). true ≡ follows kind.Map (last_key (map of_entry ks)) k.key) c.deref.ensures.value c.if-not-is_next_entry.ensures) in
    let pushed : map of_entry c.push.new.self.items ≡ front ++ of_entry k ∷ [] = rw c.in_ok-push.ensures.items (map_push of_entry c.loop.entries.items k) in
    rw pushed (goes_on kind.Map (nested_at c.args.inner) front c.args.count c.loop.counter c.loop.rest.now (of_entry k) c.in_ok-entry.after.now _ c.loop-test.true c.in_ok-entry.ensures behind c.loop.invariant)

pub entries_of-returns : goal.entries_of-returns
entries_of-returns t c = is_done kind.Map (nested_at c.args.inner) (map of_entry c.loop.entries.items) c.args.count c.loop.counter c.loop.rest.now _ c.loop-test.false c.loop.invariant

pub items_of-returns-in_err-item : goal.items_of-returns-in_err-item
items_of-returns-in_err-item t c =
    let p = err_from_is_err_and c.from_residual.result c.from_residual.ensures.1 in
    let inner = nested_at c.args.inner in
    rw (p.1, p.2) (ends c.in_err-item.field-0.0 kind.List inner (map of_item c.loop.items.items) c.args.count c.loop.counter c.loop.rest.now _ c.loop-test.true (item_stops c.in_err-item.field-0.0 inner c.loop.rest.now c.in_err-item.ensures) c.loop.invariant)

pub items_of-loop-preserved : goal.items_of-loop-preserved
items_of-loop-preserved t c =
    let v = c.in_ok-item.item in
    let inner = nested_at c.args.inner in
    let front = map of_item c.loop.items.items in
    let pushed : map of_item c.push.new.self.items ≡ front ++ of_item v ∷ [] = rw c.in_ok-push.ensures.items (map_push of_item c.loop.items.items v) in
    rw pushed (goes_on kind.List inner front c.args.count c.loop.counter c.loop.rest.now (of_item v) c.in_ok-item.after.now _ c.loop-test.true (item_read inner c.loop.rest.now v c.in_ok-item.after.now c.in_ok-item.ensures) refl c.loop.invariant)

pub items_of-returns : goal.items_of-returns
items_of-returns t c = is_done kind.List (nested_at c.args.inner) (map of_item c.loop.items.items) c.args.count c.loop.counter c.loop.rest.now _ c.loop-test.false c.loop.invariant

pub nested_of-returns-then-levels-eq0 : goal.nested_of-returns-then-levels-eq0
nested_of-returns-then-levels-eq0 t c = rw (no_level c.args.levels c.if-levels-eq0.true c.args.bytes.now) c.prim_of.ensures

pub nested_of-returns-else-levels-eq0 : goal.nested_of-returns-else-levels-eq0
nested_of-returns-else-levels-eq0 t c = let some : 0 < c.args.levels = omega arith in rw (a_level c.args.levels some c.args.bytes.now) c.within.ensures

pub node_of-invariant_of-result : goal.node_of-invariant_of-result
node_of-invariant_of-result t c = read_ascends kind.Obj (nested_at c.args.inner) c.in_ok-count.count c.in_ok-count.rest.now (map of_field c.in_ok-fields-in-Obj.fields.items) _ c.in_ok-fields-in-Obj.ensures

pub node_of-invariant_of-result-in-Map : goal.node_of-invariant_of-result-in-Map
node_of-invariant_of-result-in-Map t c = read_ascends kind.Map (nested_at c.args.inner) c.in_ok-count.count c.in_ok-count.rest.now (map of_entry c.in_ok-entries-in-Map.entries.items) _ c.in_ok-entries-in-Map.ensures

pub node_of-invariant_of-result-in-Set : goal.node_of-invariant_of-result-in-Set
node_of-invariant_of-result-in-Set t c = read_ascends kind.Set (nested_at c.args.inner) c.in_ok-count.count c.in_ok-count.rest.now (map of_member c.in_ok-members-in-Set.members.items) _ c.in_ok-members-in-Set.ensures
