use Rattle.node_store.specs.Paged.{states}
use Rattle.std.proofs.Common.{◌≡◌, ◌∙◌, ap, sym, subst, List, map}
use Rattle.value_model.specs.declared.kind.Kind.TheVariants as kind
use Rattle.run_heap.specs.declared.value.Rv.{Rv}
use Rattle.run_heap.specs.Answers.{Makes}
use Rattle.run_heap.specs.Heap.{fresh, next_object, with_object}
use Rattle.run_heap.specs.Operations.{Rows, item, keys_of, table_of}
use Rattle.run_heap.specs.Sound.{AllStored}
use Rattle.draft_core.specs.Seen.{heap}
use Rattle.draft_map_set.proofs.Facts.{prims_stored, prims_listed}
use Rattle.draft_map_set.proofs.members.list_keys.Goals as goal

pub list_of-requires-clause-stored : goal.list_of-requires-clause-stored
list_of-requires-clause-stored c =
    let h = heap (states c.args.store.now) c.args.scope.now in
    subst (AllStored h) (sym (c.deref.ensures.value ∙ c.in_ok-keys.ensures)) (prims_stored h (keys_of (table_of h c.args.of.now)))

pub returns-clause-done : goal.returns-clause-done
returns-clause-done c =
    let h = heap (states c.args.store.now) c.args.scope.now in
    let are = c.deref.ensures.value ∙ c.in_ok-keys.ensures in
    let list = ap (λ (xs : List Rv). map item xs) are ∙ prims_listed (keys_of (table_of h c.args.of.now)) in
    subst (λ (t : Rows). Makes c.list_of.result h (heap (states c.args.store.now) c.list_of.new.self) (with_object (fresh kind.List t) h) (next_object h)) list c.list_of.ensures.done
