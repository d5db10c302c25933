-- What stands at a path of a numbered state, by the rule by which a value's places are found.
use Rattle.std.specs.Prelude.{pos, Option, Some, None, List, [], ◌∷◌, map, slice_get}
use Rattle.std.specs.FinMap.Entries.{find}
use Rattle.value_model.specs.declared.key.Key.{Key}
use Rattle.value_model.specs.declared.key.Key.TheVariants.{Int}
use Rattle.value_model.specs.declared.kind.Kind.{Kind}
use Rattle.value_model.specs.declared.kind.Kind.TheVariants as kind
use Rattle.value_model.specs.Order.{key_cmp}
use Rattle.numbered.specs.Tree.{Tree, Branches, prim, node, none, branch}

-- the entries of a container as std's list
abbrev pub branch_list : Branches → List (Key × Tree)
branch_list none = []
branch_list (branch k v es) = (k, v) ∷ branch_list es

-- the child at a step: an index of a list, a key of an object or a Map; a Set has no places
abbrev pub subtree_in : Kind → Key → List (Key × Tree) → Option Tree
subtree_in kind.List (Int (pos i)) es = slice_get (map (λ e. e.1) es) i
subtree_in kind.List _ es = None
subtree_in kind.Set k es = None
subtree_in _ k es = find key_cmp k es

-- the child of a state at a step; a primitive has none
abbrev pub subtree : Key → Tree → Option Tree
subtree k (prim j) = None
subtree k (node id kind es) = subtree_in kind k (branch_list es)

-- a walk that goes on, where something stands there
abbrev pub then_subtree : (Tree → Option Tree) → Option Tree → Option Tree
then_subtree f None = None
then_subtree f (Some t) = f t

-- what stands at a path
abbrev pub subtree_at : List Key → Tree → Option Tree
subtree_at [] t = Some t
subtree_at (k ∷ path) t = then_subtree (subtree_at path) (subtree k t)
