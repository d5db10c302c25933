use Rattle.std.proofs.Common.{sym}
use Rattle.value_checks.proofs.places.entry_at.Goals as goal
use Rattle.value_checks.proofs.Members.{not_placed}
use Rattle.value_model.proofs.Search.{found_at}
use Rattle.values.specs.Seen.{of_entry}

pub returns-in-Ok : goal.returns-in-Ok
returns-in-Ok c =
    let place = c.in-Ok.ensures in
    sym (found_at of_entry c.args.step.now c.args.entries.now c.in-Ok.i c.index-entries-i.result place.past place.in_range (place.same c.index-entries-i.result))

pub returns-in-Err : goal.returns-in-Err
returns-in-Err c = sym (not_placed of_entry c.args.step.now c.args.entries.now c.in-Err.field-0 c.in-Err.ensures c.requires)
