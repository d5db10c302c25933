use Rattle.value_model.proofs.Steps.{list_of_entries}
use Rattle.shapes.proofs.paths.+steps.Goals as goal

pub in_object-returns-in-Obj : goal.in_object-returns-in-Obj
in_object-returns-in-Obj t c = rw (← c.v.view_is, c.in-Obj.is, list_of_entries, ← c.deref.ensures.value) c.in_names.ensures
