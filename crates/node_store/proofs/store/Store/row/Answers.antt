use Rattle.std.proofs.Common.{◌≡◌, ◌<◌, ◌∙◌, List, ap, length, get_or, sym, arith}
use Rattle.std.specs.Prelude.{Some}
use Rattle.std.proofs.lemmas.Option.{slice_get-get_or}
use Rattle.value_model.specs.declared.key.Key.{Key}
use Rattle.page_tables.specs.declared.cell.Cell.{Cell}
use Rattle.node_store.specs.declared.held.Listed.{Listed}
use Rattle.node_store.specs.Paged.{Paged, rows_at}
use Rattle.page_tables.specs.Pages.{table}
use Rattle.node_store.proofs.store.Store.row.Goals as goal

pub returns-clause-row : goal.returns-clause-row
returns-clause-row c =
    let rs = rows_at c.args.self.now c.args.id in
    let h = c.held-held.ensures.held in
    let l : c.args.i < length rs = let a = h.rows in let b = h.count in let r = c.requires.in_range in omega (arith, a, b, r) in
    let pages = ap (λ (s : Paged). s.pages) c.self.view_is in
    let names = c.as_slice.ensures ∙ ap (λ (n : Listed). n.names) (sym h.node) in
    let same : table c.self.inside.pages c.as_slice.result.now ≡ rs = λ j. table (pages j) (names j) in
    let here = c.row.ensures c.row.result.now ∙ ap (λ (qs : List (Key × Cell)). get_or qs c.args.i c.row.result.now) same in
    h.row_at c.args.i c.row.result.now (slice_get-get_or rs c.args.i c.row.result.now l ∙ ap (λ (r : Key × Cell). Some r) (sym here))
