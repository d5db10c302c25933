use Rattle.std.proofs.Common.{◌∙◌, List, ◌∷◌, [], ◌++◌, ap}
use Rattle.std.specs.List.{zip}
use Rattle.value_model.specs.declared.key.Key.{Key}
use Rattle.page_tables.specs.declared.cell.Cell.{Cell}
use Rattle.node_store.proofs.Tables.{zip_push}
use Rattle.node_store.proofs.table.Table.push.Goals as goal

pub returns : goal.returns
returns c =
    let ks = c.in_ok-push.ensures.items in
    let cs = c.in_ok-push-2.ensures.items in
    (λ i. zip (ks i) (cs i))
    ∙ zip_push c.self.inside.keys.items c.self.inside.cells.items c.args.key c.args.cell c.self.invariant
    ∙ ap (λ (rs : List (Key × Cell)). rs ++ (c.args.key, c.args.cell) ∷ []) c.self.view_is
