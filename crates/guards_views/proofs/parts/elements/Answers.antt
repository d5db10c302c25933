use Rattle.std.proofs.Common.{refl}
use Rattle.value_model.proofs.Steps.{list_of_entries}
use Rattle.guards_views.proofs.parts.elements.Goals as goal

pub returns-in-List : goal.returns-in-List
returns-in-List c = rw (← c.v.view_is, c.in-List.is, list_of_entries, ← c.as_slice.ensures.value) refl
