-- The path of a draft: where the container place that has its name stands in the opening state.
use Rattle.std.specs.Prelude.{ℕ, zero, suc, ◌+◌, ◌-◌, pos, List, [], ◌∷◌, Option, Some, None, nat_lt, if◌then◌else◌}
use Rattle.value_model.specs.declared.key.Key.{Key}
use Rattle.value_model.specs.declared.key.Key.TheVariants as key
use Rattle.value_model.specs.declared.kind.Kind.{Kind}
use Rattle.value_model.specs.declared.kind.Kind.TheVariants as kind
use Rattle.numbered.specs.Store.{tree_at}
use Rattle.numbered.specs.Tree.{Tree, Branches, prim, node, none, branch, containers}
use Rattle.run_heap.specs.declared.value.Rv.{Rv}
use Rattle.run_heap.specs.Heap.{Heap, is_draft}
use Rattle.run_heap.specs.Operations.{slot_of}

-- the step to the i-th entry: an index of a list, else the key
abbrev pub step : Kind → ℕ → Key → Key
step kind.List i k = key.Int (pos i)
step _ i k = k

-- the path of the n-th container place in pre-order
abbrev mutual
  pub path_to : ℕ → Tree → List Key
  path_to n (prim k) = []
  path_to zero (node id kind es) = []
  path_to (suc n) (node id kind es) = path_in kind 0 n es

  -- among the entries from the i-th on
  pub path_in : Kind → ℕ → ℕ → Branches → List Key
  path_in kind i n none = []
  path_in kind i n (branch k v es) =
      if nat_lt n (containers v) then step kind i k ∷ path_to n v else path_in kind (i + 1) (n - containers v) es

abbrev pub place_of : Heap → Rv → Option (List Key)
place_of h v = if is_draft h v then Some (path_to (slot_of v) (tree_at h.states h.root)) else None
