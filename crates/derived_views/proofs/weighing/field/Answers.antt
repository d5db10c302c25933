use Rattle.value_model.proofs.Steps.{list_of_entries}
use Rattle.derived_views.proofs.weighing.field.Goals as goal

pub returns-in-Obj : goal.returns-in-Obj
returns-in-Obj c = rw (← c.v.view_is, c.in-Obj.is, list_of_entries, ← c.deref.ensures.value) c.named.ensures
