use Rattle.node_store.specs.Paged.{states}
use Rattle.std.proofs.Common.{◌≡◌, ◌∙◌, List, ◌∷◌, [], ap, sym, subst}
use Rattle.run_heap.specs.Heap.{with_object}
use Rattle.run_heap.proofs.Laws.{grows_objects, grows_refl}
use Rattle.run_heap.specs.Operations.{spliced}
use Rattle.run_heap.specs.Sound.{AllStored, Grows}
use Rattle.draft_core.proofs.Keeping.{splice_keeps}
use Rattle.draft_core.proofs.Kept.{object_owned}
use Rattle.draft_core.proofs.ListsLaws.{all_stored_on, grows_on, list_contents}
use Rattle.draft_core.specs.Seen.{heap}
use Rattle.draft_core.specs.Writes.{KeepsTable}
use Rattle.draft_core.proofs.scope.Scope.splice_with.Goals as goal

pub returns-in_err-reserve-clause-grows : goal.returns-in_err-reserve-clause-grows
returns-in_err-reserve-clause-grows c =
    let h = heap (states c.args.store.now) c.args.self.now in
    subst (Grows h) (sym (c.reserve.ensures.heap (states c.args.store.now))) (grows_refl h)

pub change-requires-clause-table : goal.change-requires-clause-table
change-requires-clause-table c =
    let ts = (states c.args.store.now) in
    let h = heap ts c.args.self.now in
    let of = c.args.of.now in
    let items = c.args.items.now in
    let keeps = splice_keeps h of c.args.from c.args.to items c.requires.stands.sound (object_owned h of c.requires.object) c.requires.list c.requires.stored in
    subst (λ g. KeepsTable g of (spliced c.args.from c.args.to items)) (sym (c.reserve.ensures.heap ts)) keeps

pub returns-clause-stands : goal.returns-clause-stands
returns-clause-stands c =
    let ts = (states c.args.store.now) in
    let others = c.args.others.now in
    let g = heap ts c.change.new.self in
    let before = subst (λ h. AllStored h others) (sym (c.reserve.ensures.heap ts)) c.requires.others in
    let stored = all_stored_on (heap ts c.reserve.new.self) g others c.in_ok-change.ensures.grows before in
    c.add.ensures.stands ts c.in_ok-change.ensures.stands (list_contents g others c.in_ok-list.list c.in_ok-list.ensures stored)

pub returns-clause-grows : goal.returns-clause-grows
returns-clause-grows c =
    let ts = (states c.args.store.now) in
    let h = heap ts c.args.self.now in
    let g = heap ts c.change.new.self in
    let list = c.in_ok-list.list in
    let changed = subst (λ f. Grows f g) (c.reserve.ensures.heap ts) c.in_ok-change.ensures.grows in
    let made = subst (Grows g) (sym (c.add.ensures.heap ts)) (grows_objects g (list ∷ []) c.in_ok-change.ensures.stands.sound) in
    grows_on h g (heap ts c.add.new.self) changed made
