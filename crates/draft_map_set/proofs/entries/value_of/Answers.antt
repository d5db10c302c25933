use Rattle.node_store.specs.Paged.{states}
use Rattle.std.proofs.Common.{◌≡◌, sym, ap}
use Rattle.std.specs.Prelude.{Some}
use Rattle.std.specs.FinMap.Entries.{find}
use Rattle.value_model.specs.Order.{key_cmp}
use Rattle.run_heap.specs.declared.value.Rv.{Rv}
use Rattle.run_heap.specs.Operations as spec
use Rattle.run_heap.specs.Operations.{or_undefined, table_of}
use Rattle.draft_slots.proofs.LookFacts.{position_below, member_found, member_absent}
use Rattle.draft_core.proofs.Kept.{ok_more}
use Rattle.draft_core.specs.Seen.{heap}
use Rattle.draft_map_set.proofs.entries.value_of.Goals as goal

pub entry_at-requires-clause-in_range : goal.entry_at-requires-clause-in_range
entry_at-requires-clause-in_range c = position_below c.args.key.now (table_of (heap (states c.args.store.now) c.args.scope.now) c.args.of.now) c.in-Some.i (sym c.in-Some.ensures)

pub returns-in-Some-clause-value : goal.returns-in-Some-clause-value
returns-in-Some-clause-value c =
    let h = heap (states c.args.store.now) c.args.scope.now in
    let of = c.args.of.now in
    let k = c.args.key.now in
    let t = table_of h of in
    ok_more c.entry_at.result (λ (v : Rv). spec.entry_at h of c.in-Some.i ≡ Some v) (λ (v : Rv). v ≡ or_undefined (find key_cmp k t)) c.entry_at.ensures.value
    (λ v e. sym (ap or_undefined (member_found k t c.in-Some.i v (sym c.in-Some.ensures) e)))

pub returns-in-None-clause-value : goal.returns-in-None-clause-value
returns-in-None-clause-value c = sym (ap or_undefined (member_absent c.args.key.now (table_of (heap (states c.args.store.now) c.args.scope.now) c.args.of.now) (sym c.in-None.ensures)))
