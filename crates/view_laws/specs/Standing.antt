-- The entries that a view is brought up to date with.
use Rattle.std.specs.Prelude.{Option, Some, None, List, map}
use Rattle.std.specs.FinMap.Entries.{find}
use Rattle.value_model.specs.declared.key.Key.{Key}
use Rattle.value_model.specs.declared.kind.Kind.{Kind}
use Rattle.value_model.specs.declared.kind.Kind.TheVariants as kind
use Rattle.value_model.specs.Order.{key_cmp}
use Rattle.value_model.specs.Places.{at, child_at}
use Rattle.value_model.specs.Plain.{Plain, Table, prim, node, list_of}

-- what stands in a container under a step: the child there, and in a Set, which has no children, the member
abbrev pub entry_in : Kind → Key → Table → Option Plain
entry_in kind.Set k es = find key_cmp k es
entry_in kind k es = child_at kind k es

-- the same of a value; in a primitive and in nothing there is nothing
abbrev pub entry_at : Key → Option Plain → Option Plain
entry_at k None = None
entry_at k (Some (prim j)) = None
entry_at k (Some (node kind es)) = entry_in kind k (list_of es)

-- these entries of the container at a path, as they stand in a state
abbrev pub standing : List Key → Plain → List Key → List (Key × Option Plain)
standing path v ks = map (λ (k : Key). let c : Key × Option Plain = (k, entry_at k (at path v)) in c) ks
