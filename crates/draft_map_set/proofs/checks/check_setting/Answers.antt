use Rattle.node_store.specs.Paged.{states}
use Rattle.std.proofs.Common.{◌≡◌, false, rules}
use Rattle.std.proofs.lemmas.Result.{err_from_is_err_and}
use Rattle.run_heap.specs.Heap.{is_foreign}
use Rattle.draft_core.specs.Seen.{heap}
use Rattle.draft_map_set.proofs.Facts.{setting_refused}
use Rattle.draft_map_set.proofs.checks.check_setting.Goals as goal

pub returns-in_err-check_write_by : goal.returns-in_err-check_write_by
returns-in_err-check_write_by c =
    let p = err_from_is_err_and c.from_residual.result c.from_residual.ensures.1 in
    let h = heap (states c.args.store.now) c.args.scope.now in
    let ours : is_foreign h c.args.value.now ≡ false = search rules in
    setting_refused h c.args.of.now c.args.key.now c.args.value.now c.from_residual.result p.0 c.in_err-check_write_by.field-0.0 p.1 p.2 ours c.in_err-check_write_by.ensures
