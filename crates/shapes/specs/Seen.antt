-- What a shape in code shows, and when its names ascend.
use Rattle.std.specs.Prelude.{ℕ, List, map, IsTrue}
use Rattle.std.specs.FinMap.Entries.{is_sorted}
use Rattle.value_model.specs.declared.key.Key.{Key}
use Rattle.value_model.specs.declared.key.Key.TheVariants.{Null, Text}
use Rattle.value_model.specs.declared.kind.Kind.TheVariants as kind
use Rattle.value_model.specs.Order.{key_cmp}
use Rattle.value_model.specs.Plain.{Plain, prim}
use Rattle.guards_views_spec.specs.Shapes.{Shape, Names, one, range, every, members, object, either, names, choices}
use Rattle.shapes.specs.declared.shape.Named.{Named}
use Rattle.shapes.specs.declared.shape.Form.{Form}
use Rattle.shapes.specs.declared.shape.Form.TheVariants as form

-- a name with its shape
abbrev pub of_named : Named → List ℕ × Shape
of_named n = (n.name, n.shape)

-- the names of an object's shape
abbrev pub of_names : List Named → Names
of_names ns = names (map of_named ns)

-- the shape that a form is
abbrev pub seen : Form → Shape
seen (form.One s) = one s
seen (form.Range lo hi) = range lo hi
seen (form.List s) = every kind.List s.value
seen (form.Table s) = every kind.Obj s.value
seen (form.Map s) = every kind.Map s.value
seen (form.Set s) = members s
seen (form.Obj must may) = object (of_names must.items) (of_names may.items)
seen (form.Or cs) = either (choices cs.items)

-- a name in a table; what stands under it isn't looked at
abbrev pub placed : Named → Key × Plain
placed n = (Text n.name, prim Null)

-- these names ascend strictly
abbrev pub NamesAscend : List Named → Type 0
NamesAscend ns = IsTrue (is_sorted key_cmp (map placed ns))

-- the names of this level ascend strictly, where there are names
abbrev pub Ascends : Form → Type 0
Ascends (form.Obj must may) = NamesAscend must.items × NamesAscend may.items
Ascends _ = Unit {0}
