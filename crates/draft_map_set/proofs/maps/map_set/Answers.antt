use Rattle.node_store.specs.Paged.{states}
use Rattle.std.proofs.lemmas.Result.{err_from_is_err_and}
use Rattle.draft_core.specs.Seen.{heap}
use Rattle.draft_map_set_spec.specs.MapSet.{map_set}
use Rattle.draft_map_set.proofs.Facts.{map_set_refused, refused}
use Rattle.draft_map_set.proofs.maps.map_set.Goals as goal

pub returns-in_err-check_setting-clause-done : goal.returns-in_err-check_setting-clause-done
returns-in_err-check_setting-clause-done c =
    let p = err_from_is_err_and c.from_residual.result c.from_residual.ensures.1 in
    let h = heap (states c.args.store.now) c.args.scope.now in
    let e = c.in_err-check_setting.field-0.0 in
    refused c.from_residual.result (map_set c.args.key.now c.args.value h c.args.of.now) h p.0 e p.1 p.2 (map_set_refused h c.args.of.now c.args.key.now c.args.value e c.in_err-check_setting.ensures)
