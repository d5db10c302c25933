-- Places of a value: looking up, setting and removing an entry, and the walk along a path.
use Rattle.std.specs.Prelude.{pos, Option, Some, None, Bool, true, not, List, [], ◌∷◌, map, slice_get}
use Rattle.std.specs.FinMap.Entries.{find, put, where_key, is_sorted}
use Rattle.std.specs.Ordering.{eq_by_cmp}
use Rattle.value_model.specs.declared.key.Key.{Key}
use Rattle.value_model.specs.declared.key.Key.TheVariants.{Int}
use Rattle.value_model.specs.declared.kind.Kind.{Kind}
use Rattle.value_model.specs.declared.kind.Kind.TheVariants as kind
use Rattle.value_model.specs.Order.{key_cmp}
use Rattle.value_model.specs.Plain.{Plain, prim, node, entries, list_of}

-- the child at a step: an index of a list, a key of an object or a Map; a Set has no places
abbrev pub child_at : Kind → Key → List (Key × Plain) → Option Plain
child_at kind.List (Int (pos i)) es = slice_get (map (λ e. e.1) es) i
child_at kind.List _ es = None
child_at kind.Set k es = None
child_at _ k es = find key_cmp k es

-- the child of a value; a primitive has none
abbrev pub child : Key → Plain → Option Plain
child k (prim j) = None
child k (node kind es) = child_at kind k (list_of es)

-- a walk that goes on, where something stands there
abbrev pub then_at : (Plain → Option Plain) → Option Plain → Option Plain
then_at f None = None
then_at f (Some v) = f v

-- what stands at a path
abbrev pub at : List Key → Plain → Option Plain
at [] v = Some v
at (k ∷ path) v = then_at (at path) (child k v)

-- the table without the entry of a key
abbrev pub without_key : Key → List (Key × Plain) → List (Key × Plain)
without_key k es = where_key key_cmp (λ j. not (eq_by_cmp key_cmp k j)) es

-- the container with a key set to a value, as a finite map
abbrev pub set_key : Key → Plain → Plain → Plain
set_key k w (prim j) = prim j
set_key k w (node kind es) = node kind (entries (put key_cmp k w (list_of es)))

-- whether the keys ascend, where there are keys
abbrev pub ascends_at : Kind → List (Key × Plain) → Bool
ascends_at kind.List es = true
ascends_at _ es = is_sorted key_cmp es
