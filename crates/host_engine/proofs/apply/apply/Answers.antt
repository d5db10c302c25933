use Rattle.node_store.specs.Paged.{states}
use Rattle.std.proofs.Common.{◌∙◌, ap, sym, subst, true, false}
use Rattle.std.specs.FinMap.Entries.{is_sorted}
use Rattle.value_model.specs.Order.{key_cmp}
use Rattle.host_machine.specs.Flat.{is_flat_table}
use Rattle.run_heap.specs.Operations.{is_marked, root_draft}
use Rattle.draft_core.specs.Seen.{heap}
use Rattle.host_engine.specs.Drafts.{entries_in, root_in}
use Rattle.host_engine.specs.Frozen.{IsKeptChange, Changes}
use Rattle.host_engine.specs.Kept.{table_at}
use Rattle.value_model.specs.Plain.{Table}
use Rattle.std.specs.Prelude.{Err}
use Rattle.host_engine.proofs.DraftLaws.{begun_flat, begun_entries, begun_mark, root_object}
use Rattle.host_engine.proofs.FieldLaws.{object_flat, object_sorted}
use Rattle.host_engine.proofs.FlatLaws.{not_true, not_false}
use Rattle.host_engine.proofs.HostLaws.{applied_change, applied_nothing, applied_stop, applied_fault, draft_applied}
use Rattle.host_engine.proofs.apply.apply.Goals as goal

pub edit_all-requires-clause-scope : goal.edit_all-requires-clause-scope
edit_all-requires-clause-scope c = begun_flat (states c.args.store.now) c.in_ok-scope.scope c.args.ticket c.args.root c.in_ok-scope.ensures.stands c.in_ok-scope.ensures.heap c.requires.state.flat

pub returns-in-Err : goal.returns-in-Err
returns-in-Err c =
    let ts = (states c.args.store.now) in
    let s = c.in_ok-scope.scope in
    let entries = begun_entries ts s c.args.ticket c.args.root c.in_ok-scope.ensures.heap c.requires.state.flat in
    rw c.fault_of.ensures (applied_fault ts c.args.root c.args.patches.now (root_in ts s) (root_in ts c.edit_all.new.scope) c.in-Err.stop c.requires.state c.requires.patches entries c.in-Err.ensures.edits)

pub returns-in_default : goal.returns-in_default
returns-in_default c =
    let ts = (states c.args.store.now) in
    let s = c.in_ok-scope.scope in
    let t = c.edit_all.new.scope in
    let root = c.args.root in
    let ps = c.args.patches.now in
    let begun = c.in_ok-scope.ensures.heap in
    let flat = c.requires.state.flat in
    let after = c.in-Ok.ensures.scope in
    let mark = c.in_default.ensures ts after.stands in
    applied_nothing ts ts root ps (entries_in (root_in ts t)) (λ i. ts)
    (draft_applied ts root ps (root_in ts s) (root_in ts t) false c.requires.state c.requires.patches (begun_entries ts s c.args.ticket root begun flat) (begun_mark ts s c.args.ticket root begun flat) after.flat c.in-Ok.ensures.edits mark)

pub returns-then-not-content : goal.returns-then-not-content
returns-then-not-content c =
    let ts = (states c.args.store.now) in
    let s = c.in_ok-scope.scope in
    let t = c.edit_all.new.scope in
    let root = c.args.root in
    let ps = c.args.patches.now in
    let begun = c.in_ok-scope.ensures.heap in
    let flat = c.requires.state.flat in
    let after = c.in-Ok.ensures.scope in
    let mark = ap is_marked (c.in-Some.ensures ts after.stands) ∙ not_true c.in-Some.content.written c.if-not-content.true in
    applied_nothing ts ts root ps (entries_in (root_in ts t)) (λ i. ts)
    (draft_applied ts root ps (root_in ts s) (root_in ts t) false c.requires.state c.requires.patches (begun_entries ts s c.args.ticket root begun flat) (begun_mark ts s c.args.ticket root begun flat) after.flat c.in-Ok.ensures.edits mark)

pub keep-requires-clause-sorted : goal.keep-requires-clause-sorted
keep-requires-clause-sorted c =
    let ts = (states c.args.store.now) in
    let t = c.edit_all.new.scope in
    let h = heap ts t in
    let after = c.in-Ok.ensures.scope in
    let left = c.in-Some.ensures ts after.stands in
    ap (is_sorted key_cmp) (sym (ap entries_in left)) ∙ object_sorted h (root_draft h) after.stands.sound (root_object ts t after.stands) after.flat

pub keep-requires-clause-flat : goal.keep-requires-clause-flat
keep-requires-clause-flat c =
    let ts = (states c.args.store.now) in
    let after = c.in-Ok.ensures.scope in
    let left = c.in-Some.ensures ts after.stands in
    ap is_flat_table (sym (ap entries_in left)) ∙ object_flat (root_in ts c.edit_all.new.scope) after.flat

pub returns-in-Ok-keep : goal.returns-in-Ok-keep
returns-in-Ok-keep c =
    let ts = (states c.args.store.now) in
    let us = (states c.keep.new.store) in
    let s = c.in_ok-scope.scope in
    let t = c.edit_all.new.scope in
    let root = c.args.root in
    let ps = c.args.patches.now in
    let begun = c.in_ok-scope.ensures.heap in
    let flat = c.requires.state.flat in
    let after = c.in-Ok.ensures.scope in
    let left = c.in-Some.ensures ts after.stands in
    let mark = ap is_marked left ∙ not_false c.in-Some.content.written c.if-not-content.false in
    applied_change ts us root ps (entries_in (root_in ts t)) c.in-Ok-keep.change c.in-Ok-keep.ensures.few
    (draft_applied ts root ps (root_in ts s) (root_in ts t) true c.requires.state c.requires.patches (begun_entries ts s c.args.ticket root begun flat) (begun_mark ts s c.args.ticket root begun flat) after.flat c.in-Ok.ensures.edits mark)
    (subst (λ (es : Table). IsKeptChange ts us (table_at ts root) es c.in-Ok-keep.change) (sym (ap entries_in left)) c.in-Ok-keep.ensures.change)

pub returns-in-Err-keep : goal.returns-in-Err-keep
returns-in-Err-keep c =
    let ts = (states c.args.store.now) in
    let us = (states c.keep.new.store) in
    let s = c.in_ok-scope.scope in
    let t = c.edit_all.new.scope in
    let root = c.args.root in
    let ps = c.args.patches.now in
    let begun = c.in_ok-scope.ensures.heap in
    let flat = c.requires.state.flat in
    let after = c.in-Ok.ensures.scope in
    let left = c.in-Some.ensures ts after.stands in
    let mark = ap is_marked left ∙ not_false c.in-Some.content.written c.if-not-content.false in
    rw c.limit_of.ensures
    (applied_stop ts us root ps (entries_in (root_in ts t)) c.in-Err-keep.stop c.in-Err-keep.ensures.few
    (draft_applied ts root ps (root_in ts s) (root_in ts t) true c.requires.state c.requires.patches (begun_entries ts s c.args.ticket root begun flat) (begun_mark ts s c.args.ticket root begun flat) after.flat c.in-Ok.ensures.edits mark)
    (subst (λ (es : Table). Changes ts us (table_at ts root) es (Err c.in-Err-keep.stop)) (sym (ap entries_in left)) c.in-Err-keep.ensures.change))
