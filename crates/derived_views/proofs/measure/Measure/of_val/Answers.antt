use Rattle.std.proofs.Common.{◌≡◌, ◌≤◌, ◌^◌, arith, refl, ◌∙◌}
use Rattle.value_model.proofs.Steps.{list_of_entries}
use Rattle.value_model.specs.declared.kind.Kind.TheVariants as kind
use Rattle.values.specs.Seen.{of_fields, of_entries, of_items, of_members}
use Rattle.derived_views.proofs.Limits.{children_accepted, light_entries}
use Rattle.derived_views.proofs.Scratch.{sum_at_most, sorted_same, indexes_sorted, items_weigh}
use Rattle.derived_views.proofs.measure.Measure.of_val.Goals as goal

pub of_fields-requires-clause-accepted : goal.of_fields-requires-clause-accepted
of_fields-requires-clause-accepted g c = let h = rw (← c.v.view_is, c.in-Obj.is, ← c.deref.ensures.value) at c.requires.accepted in children_accepted kind.Obj (of_fields c.deref.result.now) h

pub of-requires-in-Obj-clause-small : goal.of-requires-in-Obj-clause-small
of-requires-in-Obj-clause-small g c =
    let h = rw (← c.v.view_is, c.in-Obj.is, ← c.deref.ensures.value) at c.requires.accepted in
    let a = sum_at_most c.args.self.now.weigh kind.Obj 0 (of_fields c.deref.result.now) in
    let b = light_entries kind.Obj (of_fields c.deref.result.now) h in
    rw c.in_ok-of_fields-in-Obj.ensures (omega (arith, a, b))

pub of-requires-in-Obj-clause-sorted : goal.of-requires-in-Obj-clause-sorted
of-requires-in-Obj-clause-sorted g c =
    let s = rw (c.in-Obj.is, ← c.deref.ensures.value) at c.v.invariant in
    rw c.in_ok-of_fields-in-Obj.ensures (sorted_same c.args.self.now.weigh kind.Obj (λ i k. refl) 0 (of_fields c.deref.result.now) ∙ rw list_of_entries s)

pub of_items-requires-clause-accepted : goal.of_items-requires-clause-accepted
of_items-requires-clause-accepted g c = let h = rw (← c.v.view_is, c.in-List.is, ← c.deref-in-List.ensures.value) at c.requires.accepted in children_accepted kind.List (of_items c.deref-in-List.result.now) h

pub of-requires-in-List-clause-small : goal.of-requires-in-List-clause-small
of-requires-in-List-clause-small g c =
    let h = rw (← c.v.view_is, c.in-List.is, ← c.deref-in-List.ensures.value) at c.requires.accepted in
    let a = sum_at_most c.args.self.now.weigh kind.List 0 (of_items c.deref-in-List.result.now) in
    let b = light_entries kind.List (of_items c.deref-in-List.result.now) h in
    rw c.in_ok-of_items-in-List.ensures (omega (arith, a, b))

pub of_items-requires-clause-short : goal.of_items-requires-clause-short
of_items-requires-clause-short g c =
    let h = rw (← c.v.view_is, c.in-List.is, ← c.deref-in-List.ensures.value) at c.requires.accepted in
    let b = light_entries kind.List (of_items c.deref-in-List.result.now) h in
    let a = items_weigh c.deref-in-List.result.now in
    omega (arith, a, b)

pub of-requires-in-List-clause-sorted : goal.of-requires-in-List-clause-sorted
of-requires-in-List-clause-sorted g c = rw c.in_ok-of_items-in-List.ensures (indexes_sorted c.args.self.now.weigh 0 (of_items c.deref-in-List.result.now))

pub of_entries-requires-clause-accepted : goal.of_entries-requires-clause-accepted
of_entries-requires-clause-accepted g c = let h = rw (← c.v.view_is, c.in-Map.is, ← c.deref-in-Map.ensures.value) at c.requires.accepted in children_accepted kind.Map (of_entries c.deref-in-Map.result.now) h

pub of-requires-in-Map-clause-small : goal.of-requires-in-Map-clause-small
of-requires-in-Map-clause-small g c =
    let h = rw (← c.v.view_is, c.in-Map.is, ← c.deref-in-Map.ensures.value) at c.requires.accepted in
    let a = sum_at_most c.args.self.now.weigh kind.Map 0 (of_entries c.deref-in-Map.result.now) in
    let b = light_entries kind.Map (of_entries c.deref-in-Map.result.now) h in
    rw c.in_ok-of_entries-in-Map.ensures (omega (arith, a, b))

pub of-requires-in-Map-clause-sorted : goal.of-requires-in-Map-clause-sorted
of-requires-in-Map-clause-sorted g c =
    let s = rw (c.in-Map.is, ← c.deref-in-Map.ensures.value) at c.v.invariant in
    rw c.in_ok-of_entries-in-Map.ensures (sorted_same c.args.self.now.weigh kind.Map (λ i k. refl) 0 (of_entries c.deref-in-Map.result.now) ∙ rw list_of_entries s)

pub of_members-requires-clause-accepted : goal.of_members-requires-clause-accepted
of_members-requires-clause-accepted g c = let h = rw (← c.v.view_is, c.in-Set.is, ← c.deref-in-Set.ensures.value) at c.requires.accepted in children_accepted kind.Set (of_members c.deref-in-Set.result.now) h

pub of-requires-in-Set-clause-small : goal.of-requires-in-Set-clause-small
of-requires-in-Set-clause-small g c =
    let h = rw (← c.v.view_is, c.in-Set.is, ← c.deref-in-Set.ensures.value) at c.requires.accepted in
    let a = sum_at_most c.args.self.now.weigh kind.Set 0 (of_members c.deref-in-Set.result.now) in
    let b = light_entries kind.Set (of_members c.deref-in-Set.result.now) h in
    rw c.in_ok-of_members-in-Set.ensures (omega (arith, a, b))

pub of-requires-in-Set-clause-sorted : goal.of-requires-in-Set-clause-sorted
of-requires-in-Set-clause-sorted g c =
    let s = rw (c.in-Set.is, ← c.deref-in-Set.ensures.value) at c.v.invariant in
    rw c.in_ok-of_members-in-Set.ensures (sorted_same c.args.self.now.weigh kind.Set (λ i k. refl) 0 (of_members c.deref-in-Set.result.now) ∙ rw list_of_entries s)
