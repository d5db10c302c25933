use Rattle.std.proofs.Common.{◌≡◌, Bool, true, false, not, Option, sym, ap, ◌∙◌}
use Rattle.std.specs.Prelude.{is_some, is_none}
use Rattle.value_model.proofs.Steps.{list_of_entries}
use Rattle.guards_views_spec.specs.Shapes as spec
use Rattle.shapes.specs.Seen.{of_names}
use Rattle.shapes.proofs.Firsts.{found_none}
use Rattle.shapes.proofs.meeting.+meets.Goals as goal

told : {X : Type 0} (b : Bool) (w : Option X) (x : Bool) → is_some w ≡ not b → is_none w ≡ x → b ≡ x
told true w x h e = ap not (sym h) ∙ e
told false w x h e = ap not (sym h) ∙ e

pub is_object-returns-in-Obj : goal.is_object-returns-in-Obj
is_object-returns-in-Obj t c =
    let found = found_none (spec.shapes (spec.object (of_names c.args.must.now) (of_names c.args.may.now))) c.first_wrong.result _ c.first_wrong.ensures in
    rw (← c.v.view_is, c.in-Obj.is, list_of_entries, ← c.deref.ensures.value) (told c.is_none.result c.first_wrong.result _ c.is_none.ensures found)
