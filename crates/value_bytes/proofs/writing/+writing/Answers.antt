use Rattle.std.proofs.Common.{◌≡◌, ◌<◌, ◌^◌, length, sym, ap, subst, refl, ◌∙◌, arith}
use Rattle.std.proofs.lemmas.Result.{on_ok_weaker}
use Rattle.value_model.specs.declared.kind.Kind.TheVariants as kind
use Rattle.value_model.specs.Plain.{Plain, node, weight}
use Rattle.values.proofs.Fits.{fields_fit, items_fit, entries_fit, members_fit}
use Rattle.values.specs.Seen.{plain_of, of_field, of_entry, of_item, of_member, of_fields, of_entries, of_items, of_members}
use Rattle.value_bytes.proofs.Nodes.{few, spelled_node, well_node}
use Rattle.value_bytes.proofs.writing.+writing.Goals as goal

pub put_nested-put_count-requires : goal.put_nested-put_count-requires
put_nested-put_count-requires t c =
    let v-is : node kind.Obj (of_fields c.in-Obj.fields.items) ≡ c.args.v.now = ap plain_of (sym c.in-Obj.is) ∙ c.v.view_is in
    let light : weight (node kind.Obj (of_fields c.in-Obj.fields.items)) < 2 ^ 32 = subst (λ (v : Plain). weight v < 2 ^ 32) (sym v-is) c.requires in
    omega (arith, few of_field kind.Obj c.in-Obj.fields.items, c.len.ensures)

pub put_nested-returns-in_ok-put_count-in-Obj-clause-bytes : goal.put_nested-returns-in_ok-put_count-in-Obj-clause-bytes
put_nested-returns-in_ok-put_count-in-Obj-clause-bytes t c =
    let v-is : node kind.Obj (of_fields c.in-Obj.fields.items) ≡ c.args.v.now = ap plain_of (sym c.in-Obj.is) ∙ c.v.view_is in
    let n-is : c.len.result ≡ length c.in-Obj.fields.items = omega (arith, c.len.ensures) in
    on_ok_weaker c.put_fields.result (λ h. spelled_node of_field kind.Obj c.in-Obj.fields.items _ _ _ _ _ _ _ v-is n-is c.deref.ensures.value c.in_ok-push-in-Obj.ensures.items c.in_ok-put_count-in-Obj.ensures h) c.put_fields.ensures.bytes

pub put_nested-returns-in_ok-put_count-in-Obj-clause-well : goal.put_nested-returns-in_ok-put_count-in-Obj-clause-well
put_nested-returns-in_ok-put_count-in-Obj-clause-well t c =
    let v-is : node kind.Obj (of_fields c.in-Obj.fields.items) ≡ c.args.v.now = ap plain_of (sym c.in-Obj.is) ∙ c.v.view_is in
    on_ok_weaker c.put_fields.result (λ h. well_node of_field kind.Obj c.in-Obj.fields.items _ c.args.v.now v-is c.deref.ensures.value (rw c.in-Obj.is at c.v.invariant) (fields_fit c.in-Obj.fields.items) h) c.put_fields.ensures.well

pub put_nested-put_count-requires-in-List : goal.put_nested-put_count-requires-in-List
put_nested-put_count-requires-in-List t c =
    let v-is : node kind.List (of_items c.in-List.items.items) ≡ c.args.v.now = ap plain_of (sym c.in-List.is) ∙ c.v.view_is in
    let light : weight (node kind.List (of_items c.in-List.items.items)) < 2 ^ 32 = subst (λ (v : Plain). weight v < 2 ^ 32) (sym v-is) c.requires in
    omega (arith, few of_item kind.List c.in-List.items.items, c.len-in-List.ensures)

pub put_nested-returns-in_ok-put_count-in-List-clause-bytes : goal.put_nested-returns-in_ok-put_count-in-List-clause-bytes
put_nested-returns-in_ok-put_count-in-List-clause-bytes t c =
    let v-is : node kind.List (of_items c.in-List.items.items) ≡ c.args.v.now = ap plain_of (sym c.in-List.is) ∙ c.v.view_is in
    let n-is : c.len-in-List.result ≡ length c.in-List.items.items = omega (arith, c.len-in-List.ensures) in
    on_ok_weaker c.put_items.result (λ h. spelled_node of_item kind.List c.in-List.items.items _ _ _ _ _ _ _ v-is n-is c.deref-in-List.ensures.value c.in_ok-push-in-List.ensures.items c.in_ok-put_count-in-List.ensures h) c.put_items.ensures.bytes

pub put_nested-returns-in_ok-put_count-in-List-clause-well : goal.put_nested-returns-in_ok-put_count-in-List-clause-well
put_nested-returns-in_ok-put_count-in-List-clause-well t c =
    let v-is : node kind.List (of_items c.in-List.items.items) ≡ c.args.v.now = ap plain_of (sym c.in-List.is) ∙ c.v.view_is in
    on_ok_weaker c.put_items.result (λ h. well_node of_item kind.List c.in-List.items.items _ c.args.v.now v-is c.deref-in-List.ensures.value refl (items_fit c.in-List.items.items) h) c.put_items.ensures.well

pub put_nested-put_count-requires-in-Map : goal.put_nested-put_count-requires-in-Map
put_nested-put_count-requires-in-Map t c =
    let v-is : node kind.Map (of_entries c.in-Map.entries.items) ≡ c.args.v.now = ap plain_of (sym c.in-Map.is) ∙ c.v.view_is in
    let light : weight (node kind.Map (of_entries c.in-Map.entries.items)) < 2 ^ 32 = subst (λ (v : Plain). weight v < 2 ^ 32) (sym v-is) c.requires in
    omega (arith, few of_entry kind.Map c.in-Map.entries.items, c.len-in-Map.ensures)

pub put_nested-returns-in_ok-put_count-in-Map-clause-bytes : goal.put_nested-returns-in_ok-put_count-in-Map-clause-bytes
put_nested-returns-in_ok-put_count-in-Map-clause-bytes t c =
    let v-is : node kind.Map (of_entries c.in-Map.entries.items) ≡ c.args.v.now = ap plain_of (sym c.in-Map.is) ∙ c.v.view_is in
    let n-is : c.len-in-Map.result ≡ length c.in-Map.entries.items = omega (arith, c.len-in-Map.ensures) in
    on_ok_weaker c.put_entries.result (λ h. spelled_node of_entry kind.Map c.in-Map.entries.items _ _ _ _ _ _ _ v-is n-is c.deref-in-Map.ensures.value c.in_ok-push-in-Map.ensures.items c.in_ok-put_count-in-Map.ensures h) c.put_entries.ensures.bytes

pub put_nested-returns-in_ok-put_count-in-Map-clause-well : goal.put_nested-returns-in_ok-put_count-in-Map-clause-well
put_nested-returns-in_ok-put_count-in-Map-clause-well t c =
    let v-is : node kind.Map (of_entries c.in-Map.entries.items) ≡ c.args.v.now = ap plain_of (sym c.in-Map.is) ∙ c.v.view_is in
    on_ok_weaker c.put_entries.result (λ h. well_node of_entry kind.Map c.in-Map.entries.items _ c.args.v.now v-is c.deref-in-Map.ensures.value (rw c.in-Map.is at c.v.invariant) (entries_fit c.in-Map.entries.items) h) c.put_entries.ensures.well

pub put_nested-put_count-requires-in-Set : goal.put_nested-put_count-requires-in-Set
put_nested-put_count-requires-in-Set t c =
    let v-is : node kind.Set (of_members c.in-Set.members.items) ≡ c.args.v.now = ap plain_of (sym c.in-Set.is) ∙ c.v.view_is in
    let light : weight (node kind.Set (of_members c.in-Set.members.items)) < 2 ^ 32 = subst (λ (v : Plain). weight v < 2 ^ 32) (sym v-is) c.requires in
    omega (arith, few of_member kind.Set c.in-Set.members.items, c.len-in-Set.ensures)

pub put_nested-returns-in_ok-put_count-in-Set-clause-bytes : goal.put_nested-returns-in_ok-put_count-in-Set-clause-bytes
put_nested-returns-in_ok-put_count-in-Set-clause-bytes t c =
    let v-is : node kind.Set (of_members c.in-Set.members.items) ≡ c.args.v.now = ap plain_of (sym c.in-Set.is) ∙ c.v.view_is in
    let n-is : c.len-in-Set.result ≡ length c.in-Set.members.items = omega (arith, c.len-in-Set.ensures) in
    on_ok_weaker c.put_members.result (λ h. spelled_node of_member kind.Set c.in-Set.members.items _ _ _ _ _ _ _ v-is n-is c.deref-in-Set.ensures.value c.in_ok-push-in-Set.ensures.items c.in_ok-put_count-in-Set.ensures h) c.put_members.ensures.bytes

pub put_nested-returns-in_ok-put_count-in-Set-clause-well : goal.put_nested-returns-in_ok-put_count-in-Set-clause-well
put_nested-returns-in_ok-put_count-in-Set-clause-well t c =
    let v-is : node kind.Set (of_members c.in-Set.members.items) ≡ c.args.v.now = ap plain_of (sym c.in-Set.is) ∙ c.v.view_is in
    on_ok_weaker c.put_members.result (λ h. well_node of_member kind.Set c.in-Set.members.items _ c.args.v.now v-is c.deref-in-Set.ensures.value (rw c.in-Set.is at c.v.invariant) (members_fit c.in-Set.members.items) h) c.put_members.ensures.well
