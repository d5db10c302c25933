use Rattle.node_store.specs.Paged.{states}
use Rattle.std.proofs.Common.{[], ◌∷◌}
use Rattle.std.proofs.lemmas.Result.{err_from_is_err_and}
use Rattle.draft_core.specs.Seen.{heap}
use Rattle.run_heap.specs.Operations.{edited}
use Rattle.draft_map_set_spec.specs.MapSet.{deleting}
use Rattle.draft_map_set.specs.Checks.{taken}
use Rattle.draft_map_set.proofs.Facts.{edit_refused, refused}
use Rattle.draft_map_set.proofs.entries.delete.Goals as goal

pub returns-in_err-check_write_by-clause-done : goal.returns-in_err-check_write_by-clause-done
returns-in_err-check_write_by-clause-done c =
    let p = err_from_is_err_and c.from_residual.result c.from_residual.ensures.1 in
    let h = heap (states c.args.store.now) c.args.scope.now in
    let edit = deleting (taken c.args.takes) c.args.key.now in
    let others = c.args.key.now ∷ [] in
    let e = c.in_err-check_write_by.field-0.0 in
    refused c.from_residual.result (edited edit h c.args.of.now others) h p.0 e p.1 p.2 (edit_refused edit h c.args.of.now others e c.in_err-check_write_by.ensures)
