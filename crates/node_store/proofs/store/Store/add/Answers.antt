use Rattle.std.proofs.Common.{◌∙◌, ◌+◌, ◌/◌, List, ℕ, length, map, ap, sym, subst, arith, length-append}
use Rattle.value_model.specs.declared.key.Key.{Key}
use Rattle.numbered.specs.Store.{IsNext}
use Rattle.page_tables.specs.declared.cell.Cell.{Cell}
use Rattle.page_tables.specs.Pages.{in_pages}
use Rattle.page_tables.proofs.PageLaws.{pages_of}
use Rattle.node_store.specs.Kept.{sums}
use Rattle.node_store.specs.Nodes.{CellsBelow, formed}
use Rattle.node_store.specs.Paged.{states}
use Rattle.node_store.specs.Sums.{cell_containers}
use Rattle.node_store.proofs.Added.{light_state, own_small, next_built, node_cells, row_cells}
use Rattle.node_store.proofs.Shown.{length_rows}
use Rattle.node_store.proofs.store.Store.add.Goals as goal

pub overflow_add-used : goal.overflow_add-used
overflow_add-used c =
    let n = c.args.node in
    let own = c.measured-measures.ensures.own in
    let small = own_small (states c.args.self.now) n.kind n.keys n.cells c.len.ensures.store n.fits c.requires.below c.requires.accepted in
    let used = c.used.ensures.light in
    omega (arith, own, small, used)

pub sums-requires-clause-small : goal.sums-requires-clause-small
sums-requires-clause-small c =
    let n = c.args.node in
    let light = light_state (states c.args.self.now) n.kind n.keys n.cells c.len.ensures.store n.fits c.requires.below c.requires.accepted in
    let places = light.places in
    let same = ap (cell_containers (states c.args.self.now)) c.as_slice.ensures in
    omega (arith, places, same)

pub keep-requires-clause-below : goal.keep-requires-clause-below
keep-requires-clause-below c =
    let n = c.args.node in
    subst (λ (rs : List (Key × Cell)). CellsBelow (states c.args.self.now) (map (λ r. r.1) rs)) (sym c.in_ok-rows.ensures) (row_cells (states c.args.self.now) n.kind n.keys n.cells n.fits c.requires.below)

pub keep-requires-clause-next : goal.keep-requires-clause-next
keep-requires-clause-next c =
    let n = c.args.node in
    let ts = states c.args.self.now in
    subst (λ (rs : List (Key × Cell)). IsNext ts (formed ts n.kind rs)) (sym c.in_ok-rows.ensures) (next_built ts n.kind n.keys n.cells c.len.ensures.store n.fits c.requires.accepted (row_cells ts n.kind n.keys n.cells n.fits c.requires.below))

pub keep-requires-clause-sums : goal.keep-requires-clause-sums
keep-requires-clause-sums c =
    let n = c.args.node in
    let ts = states c.args.self.now in
    c.in_ok-sums.ensures ∙ ap (sums ts 0) (c.as_slice.ensures ∙ sym (node_cells n.kind n.keys n.cells n.fits)) ∙ ap (λ (rs : List (Key × Cell)). sums ts 0 (map (λ r. r.1) rs)) (sym c.in_ok-rows.ensures)

pub returns-clause-exact : goal.returns-clause-exact
returns-clause-exact c =
    let n = c.args.node in
    let rs = c.in_ok-rows.rows.items in
    let count = ap length c.in_ok-keep.ensures.pages ∙ length-append c.args.self.now.pages (in_pages rs) in
    let pages = pages_of rs in
    let rows = sym (length_rows rs) ∙ ap (λ (qs : List (Key × Cell)). length (map (λ r. r.1) qs)) c.in_ok-rows.ensures ∙ ap length (node_cells n.kind n.keys n.cells n.fits) in
    count ∙ ap (λ (k : ℕ). length c.args.self.now.pages + k) (pages ∙ ap (λ (k : ℕ). (k + 63) / 64) rows)
