-- What stands at a path of a numbered state, and what a row of reads gives.
use Rattle.std.specs.Prelude.{◌≡◌, pos, Option, Some, None, List, [], ◌∷◌, slice_get, if◌then◌else◌, Result, Ok, Err, ⊤}
use Rattle.std.specs.Ordering.{is_eq}
use Rattle.value_model.specs.declared.key.Key.{Key}
use Rattle.value_model.specs.declared.key.Key.TheVariants as key
use Rattle.value_model.specs.declared.kind.Kind.{Kind}
use Rattle.value_model.specs.declared.kind.Kind.TheVariants as kind
use Rattle.value_model.specs.Order.{key_cmp}
use Rattle.numbered.specs.Store.{tree_at}
use Rattle.numbered.specs.Tree.{Tree, Branches, prim, node, none, branch, children}
use Rattle.run_heap.specs.declared.value.Rv.{Rv}
use Rattle.run_heap.specs.declared.value.Rv.TheVariants.{Undefined, Prim, Obj}
use Rattle.run_heap.specs.declared.fault.DraftFault.{DraftFault}
use Rattle.run_heap.specs.declared.value.Given.TheVariants as given
use Rattle.run_heap.specs.Heap.{Heap, given_value}
use Rattle.run_heap.specs.Operations.{get, Rows}
use Rattle.run_heap.specs.Places.{place_of}

-- ---- a path
abbrev pub under : Key → Branches → Option Tree
under k none = None
under k (branch j v es) = if is_eq (key_cmp k j) then Some v else under k es

-- the child at a step: a text in an object, an index in a list, any key in a Map; a Set has no places
abbrev pub child : Kind → Key → Branches → Option Tree
child kind.Obj (key.Text s) es = under (key.Text s) es
child kind.List (key.Int (pos i)) es = slice_get (children es) i
child kind.Map k es = under k es
child _ _ es = None

abbrev pub then_subtree : (Tree → Option Tree) → Option Tree → Option Tree
then_subtree f None = None
then_subtree f (Some t) = f t

abbrev pub subtree_at : List Key → Tree → Option Tree
subtree_at [] t = Some t
subtree_at (k ∷ path) (prim j) = None
subtree_at (k ∷ path) (node id of es) = then_subtree (subtree_at path) (child of k es)

-- the state that a heap's scope was begun at
abbrev pub opening_state : Heap → Tree
opening_state h = tree_at h.states h.root

abbrev pub IsNode : Tree → Type 0
IsNode (prim k) = ⊥
IsNode (node id of es) = ⊤

-- some draft has this path
abbrev pub IsPathOfDraft : Heap → List Key → Type 0
IsPathOfDraft h path = (v : Rv) × (place_of h v ≡ Some path)

-- ---- a row of reads
abbrev pub then_reads : (Rv → Result Rv DraftFault) → Result Rv DraftFault → Result Rv DraftFault
then_reads f (Err e) = Err e
then_reads f (Ok v) = f v

-- what is read from a value by these keys in turn
abbrev pub read_along : List Key → Heap → Rv → Result Rv DraftFault
read_along [] h v = Ok v
read_along (k ∷ ks) h v = then_reads (read_along ks h) (get k h v)

-- what stands somewhere in a state as it is read there: a container frozen, nothing as undefined
abbrev pub frozen_value : Option Tree → Rv
frozen_value None = Undefined
frozen_value (Some t) = given_value given.Frozen t

abbrev pub IsNoObject : Rv → Type 0
IsNoObject (Obj r) = ⊥
IsNoObject _ = ⊤

abbrev pub IsPrimitive : Rv → Type 0
IsPrimitive (Prim k) = ⊤
IsPrimitive _ = ⊥

-- each of these rows has a primitive for its value
abbrev pub AllPrimitive : Rows → Type 0
AllPrimitive [] = ⊤
AllPrimitive (e ∷ es) = IsPrimitive e.1 × AllPrimitive es
