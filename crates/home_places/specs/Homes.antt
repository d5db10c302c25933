-- Home places: those where the draft of that very place stands in the result.
use Rattle.std.specs.Prelude.{ℕ, suc, pos, ◌==◌, List, [], ◌∷◌, ◌++◌, Option, Some, None, Bool, true, false, ◌&&◌, not, nat_lt, map, slice_get, if◌then◌else◌}
use Rattle.std.specs.FinMap.Entries.{find}
use Rattle.value_model.specs.declared.key.Key.{Key}
use Rattle.value_model.specs.declared.key.Key.TheVariants.{Int}
use Rattle.value_model.specs.declared.kind.Kind.{Kind}
use Rattle.value_model.specs.declared.kind.Kind.TheVariants as kind
use Rattle.value_model.specs.Order.{key_cmp}
use Rattle.numbered.specs.Tree as tree
use Rattle.numbered.specs.Tree.{Tree, Branches, number, branches_of}
use Rattle.numbered.specs.Store.{tree_at}
use Rattle.host_machine.specs.Paths.{subtree_at}
use Rattle.run_heap.specs.Heap.{Heap, drafts}
use Rattle.run_heap.specs.Operations.{source_in}
use Rattle.run_heap.specs.Places.{step, path_to}
use Rattle.result_trees.specs.Final.{Final, Finals, prim, frozen, object, none, entry}
use Rattle.home_places.specs.Paths.{Homes, same_path}

-- the object with this name is the draft of the place at this path
abbrev pub is_home : Heap → List Key → ℕ → Bool
is_home h path n = nat_lt n (drafts h) && same_path (path_to n (tree_at h.states h.root)) path

-- it has another number than the state that it was opened on
abbrev pub has_other_number : Option ℕ → Tree → Bool
has_other_number None t = true
has_other_number (Some id) t = not (number t == id)

-- ---- what stands at a path of a result tree
-- the entries of an object as std's list
abbrev pub entry_list : Finals → List (Key × Final)
entry_list none = []
entry_list (entry k v es) = (k, v) ∷ entry_list es

-- the entry at a step: an index of a list, a key of an object or a Map; a Set has no places
abbrev pub entry_in : Kind → Key → List (Key × Final) → Option Final
entry_in kind.List (Int (pos i)) es = slice_get (map (λ e. e.1) es) i
entry_in kind.List _ es = None
entry_in kind.Set k es = None
entry_in _ k es = find key_cmp k es

-- what stands in an object at a step; no object stands in a frozen state
abbrev pub final_child : Key → Final → Option Final
final_child k (prim j) = None
final_child k (frozen t) = None
final_child k (object n kind es) = entry_in kind k (entry_list es)

abbrev pub then_final : (Final → Option Final) → Option Final → Option Final
then_final f None = None
then_final f (Some v) = f v

-- what stands at a path
abbrev pub final_at : List Key → Final → Option Final
final_at [] f = Some f
final_at (k ∷ path) f = then_final (final_at path) (final_child k f)

-- what is read at this path is the draft of this place, and `t`, the new state there, has another number
abbrev pub is_changed_home : Heap → List Key → Option Final → Option Tree → Bool
is_changed_home h path (Some (object n kind es)) (Some t) = is_home h path n && has_other_number (source_in (h.object n)) t
is_changed_home h path _ _ = false

-- the home places with other numbers, of a result tree with this numbered state
abbrev pub changed_homes : Heap → Final → Tree → Homes
changed_homes h f t = λ path. is_changed_home h path (final_at path f) (subtree_at path t)

-- ---- the same places as a list of paths
-- this place itself, where it is home and its state has another number
abbrev pub home_here : Heap → List Key → ℕ → Tree → List (List Key)
home_here h path n t = if is_home h path n && has_other_number (source_in (h.object n)) t then [] ∷ [] else []

-- paths from the entry at a step, as paths from here
abbrev pub all_below : Key → List (List Key) → List (List Key)
all_below k paths = map (λ path. k ∷ path) paths

-- The home places with other numbers of the result tree that stands at `path`, as paths from there, in the order of a walk from
-- the root; `t` is the numbered state of the result tree.
abbrev mutual
  pub homes : Heap → List Key → Final → Tree → List (List Key)
  homes h path (prim k) t = []
  homes h path (frozen f) t = []
  homes h path (object n kind es) t = home_here h path n t ++ homes_in h path kind 0 es (branches_of t)

  pub homes_in : Heap → List Key → Kind → ℕ → Finals → Branches → List (List Key)
  homes_in h path kind i none ts = []
  homes_in h path kind i (entry k v es) tree.none = []
  homes_in h path kind i (entry k v es) (tree.branch j t ts) = all_below (step kind i k) (homes h (path ++ step kind i k ∷ []) v t) ++ homes_in h path kind (suc i) es ts
