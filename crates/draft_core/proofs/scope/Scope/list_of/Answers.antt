use Rattle.node_store.specs.Paged.{states}
use Rattle.std.proofs.Common.{◌≡◌, ◌∙◌, List, ◌∷◌, [], ap, sym, subst}
use Rattle.run_heap.specs.Heap.{with_object}
use Rattle.run_heap.proofs.Laws.{grows_objects, grows_refl}
use Rattle.run_heap.specs.Sound.{AllStored, Grows}
use Rattle.draft_core.proofs.ListsLaws.{list_contents}
use Rattle.draft_core.specs.Seen.{heap}
use Rattle.draft_core.proofs.scope.Scope.list_of.Goals as goal

pub returns-in_err-reserve-clause-grows : goal.returns-in_err-reserve-clause-grows
returns-in_err-reserve-clause-grows c =
    let h = heap (states c.args.store.now) c.args.self.now in
    subst (Grows h) (sym (c.reserve.ensures.heap (states c.args.store.now))) (grows_refl h)

pub returns-clause-stands : goal.returns-clause-stands
returns-clause-stands c =
    let ts = (states c.args.store.now) in
    let items = c.args.items.now in
    let g = heap ts c.reserve.new.self in
    let stored = subst (λ h. AllStored h items) (sym (c.reserve.ensures.heap ts)) c.requires.stored in
    c.add.ensures.stands ts (c.reserve.ensures.stands ts c.requires.stands) (list_contents g items c.in_ok-list.list c.in_ok-list.ensures stored)

pub returns-clause-grows : goal.returns-clause-grows
returns-clause-grows c =
    let ts = (states c.args.store.now) in
    let h = heap ts c.args.self.now in
    let list = c.in_ok-list.list in
    subst (Grows h) (sym (c.add.ensures.heap ts ∙ ap (with_object list) (c.reserve.ensures.heap ts))) (grows_objects h (list ∷ []) c.requires.stands.sound)
