use Rattle.std.proofs.Common.{◌-◌, length, ap, sym, ◌∙◌, arith}
use Rattle.value_model.specs.declared.key.Key.{Key}
use Rattle.page_tables.specs.declared.cell.Cell.{Cell}
use Rattle.page_tables.proofs.EditLaws.{last_row}
use Rattle.page_tables.proofs.rebuild.last_key.Goals as goal

pub returns : goal.returns
returns c = let some = c.requires.0 in c.key.ensures ∙ ap (λ (r : Key × Cell). r.0) c.index-rows-rows.is ∙ sym (last_row c.args.rows.now (length c.args.rows.now - 1) c.index-rows-rows.result (omega (arith, some)))
