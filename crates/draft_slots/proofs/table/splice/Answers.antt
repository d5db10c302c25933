use Rattle.std.proofs.Common.{◌≡◌, ◌∙◌, sym, ap, map, not}
use Rattle.std.proofs.lemmas.Iterator.{items_from_drains}
use Rattle.std.proofs.lemmas.Iterator.Adapters.{YieldsList-from_vec}
use Rattle.std.proofs.lemmas.List.{map-id}
use Rattle.std.specs.Prelude.{slice_range}
use Rattle.std.specs.List.{splice}
use Rattle.run_heap.specs.Operations.{item}
use Rattle.run_heap.specs.Operations.{Rows}
use Rattle.run_heap.specs.Values.{same_tables}
use Rattle.draft_slots.proofs.Tables.{spliced_differs}
use Rattle.draft_slots.proofs.table.splice.Goals as goal

pub returns : goal.returns
returns c =
    let h = c.in_ok-splice.ensures.items in
    let fresh = c.in_ok-fresh.fresh in
    let list = YieldsList-from_vec fresh.items h.2.0 (h.2.1 ∙ fresh.ok.0) in
    let drained : map (λ e. e) h.1 ≡ fresh.items = items_from_drains h.1 (h.3.1.0, h.3.1.1, λ _. (h.3.0, h.3.1.2)) list in
    let whole : h.1 ≡ map item c.args.items.now = sym (map-id h.1) ∙ drained ∙ c.in_ok-fresh.ensures in
    let t = c.args.table.now in
    let range = c.are_items-differs.ensures ∙ ap (λ (u : Rows). same_tables (slice_range u c.args.from c.args.to) (map item c.args.items.now)) (c.deref.ensures.value ∙ c.table.view_is) in
    (h.4 ∙ ap (λ (u : Rows). splice u c.args.from c.args.to h.1) c.table.view_is ∙ ap (splice t c.args.from c.args.to) whole, ap not (range ∙ sym (spliced_differs t c.args.from c.args.to c.args.items.now c.requires.ordered c.requires.in_range)))
