-- Each shape inside has fewer shapes than the whole.
use Rattle.std.specs.Prelude.{◌+◌, ◌≤◌, List, [], ◌∷◌, map}
use Rattle.std.proofs.Common.{arith}
use denote.Param.Weighed.{most}
use Rattle.guards_views_spec.specs.Shapes.{Shape, shapes, shapes_named, shapes_among, choices}
use Rattle.shapes.specs.Seen.{seen, of_names}
use Rattle.shapes.specs.declared.shape.Named.{Named}
use Rattle.shapes.specs.declared.shape.Form.{Form}
use Rattle.shapes.specs.declared.shape.Form.TheVariants as form
use Rattle.shapes.specs.declared.shape.Shape.TheDeep.{deep-Form, deep-Named}

most_named : (ns : List Named) → most (λ n. deep-Named n) ns ≤ shapes_named (of_names ns) + 1
most_named [] = omega arith
most_named (n ∷ ns) =
    let one : deep-Named n ≤ shapes n.shape + 1 = omega arith in
    omega (arith, one, most_named ns)

most_choices : (cs : List Shape) → most (λ s. shapes s + 1) cs ≤ shapes_among (choices cs) + 1
most_choices [] = omega arith
most_choices (s ∷ ss) = omega (arith, most_choices ss)

-- what is inside a form is no larger than its count of shapes
pub falls : (f : Form) → deep-Form f ≤ shapes (seen f)
falls (form.One s) = omega arith
falls (form.Range lo hi) = omega arith
falls (form.List s) = omega arith
falls (form.Table s) = omega arith
falls (form.Map s) = omega arith
falls (form.Set s) = omega arith
falls (form.Obj must may) = omega (arith, most_named must.items, most_named may.items)
falls (form.Or cs) = omega (arith, most_choices cs.items)
