use Rattle.std.proofs.Common.{List, IsTrue, map, sym, subst, ◌∙◌}
use Rattle.std.specs.FinMap.Entries.{is_sorted}
use Rattle.value_model.specs.declared.key.Key.{Key}
use Rattle.value_model.specs.Order.{key_cmp}
use Rattle.values.specs.Seen.{of_member}
use Rattle.derived_views.proofs.TouchLaws.{with_found, with_gap, with_ascends}
use Rattle.derived_views.proofs.touched.add_key.Goals as goal

pub returns-in-Ok-clause-added : goal.returns-in-Ok-clause-added
returns-in-Ok-clause-added c =
    let place = rw c.deref.ensures.value at c.in-Ok.ensures in
    with_found c.args.key c.args.keys.now.items c.in-Ok.field-0 c.args.key place.past place.in_range (place.same c.args.key)

pub returns-in_ok-insert-in-Err-clause-added : goal.returns-in_ok-insert-in-Err-clause-added
returns-in_ok-insert-in-Err-clause-added c =
    let place = rw c.deref.ensures.value at c.in-Err.ensures in
    rw c.in_ok-insert-in-Err.ensures.items (with_gap c.args.key c.args.keys.now.items c.in-Err.at c.args.key place.past place.in_range (place.above c.args.key))

pub returns-in_ok-insert-in-Err-clause-sorted : goal.returns-in_ok-insert-in-Err-clause-sorted
returns-in_ok-insert-in-Err-clause-sorted c =
    let place = rw c.deref.ensures.value at c.in-Err.ensures in
    let added = with_gap c.args.key c.args.keys.now.items c.in-Err.at c.args.key place.past place.in_range (place.above c.args.key) in
    rw c.in_ok-insert-in-Err.ensures.items (subst (λ (ks : List Key). IsTrue (is_sorted key_cmp (map of_member ks))) (sym added) (with_ascends c.args.key c.args.keys.now.items c.requires))
