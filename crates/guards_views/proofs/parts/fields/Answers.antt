use Rattle.std.proofs.Common.{refl}
use Rattle.value_model.proofs.Steps.{list_of_entries}
use Rattle.guards_views.proofs.parts.fields.Goals as goal

pub returns-in-Obj : goal.returns-in-Obj
returns-in-Obj c = rw (← c.v.view_is, c.in-Obj.is, list_of_entries, ← c.as_slice.ensures.value) refl
