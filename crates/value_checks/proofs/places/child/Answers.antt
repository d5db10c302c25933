use Rattle.value_model.proofs.Steps.{list_of_entries}
use Rattle.value_checks.proofs.places.child.Goals as goal

pub returns-in-List : goal.returns-in-List
returns-in-List c = rw (← c.v.view_is, c.in-List.is, list_of_entries, ← c.deref.ensures.value) c.item_at.ensures

pub returns-in-Obj : goal.returns-in-Obj
returns-in-Obj c = rw (← c.v.view_is, c.in-Obj.is, list_of_entries, ← c.deref-in-Obj.ensures.value) c.field_at.ensures

pub returns-in-Map : goal.returns-in-Map
returns-in-Map c = rw (← c.v.view_is, c.in-Map.is, list_of_entries, ← c.deref-in-Map.ensures.value) c.entry_at.ensures
