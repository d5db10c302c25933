-- One object, one state: wherever an object stands in the result tree, it has the same numbered state.
use Rattle.std.specs.Prelude.{◌≡◌, ℕ, Option, Some, None, ⊤}
use Rattle.std.specs.FinMap.Entries.{find}
use Rattle.std.specs.Ordering.{nat_cmp}
use Rattle.numbered.specs.Store.{tree_at}
use Rattle.numbered.specs.Tree as tree
use Rattle.numbered.specs.Tree.{Tree, Branches, branches_of}
use Rattle.run_heap.specs.Heap.{Heap}
use Rattle.result_trees.specs.Final.{Final, Finals, prim, frozen, object, none, entry}
use Rattle.result_trees.specs.Written.{is_written, kept}
use Rattle.new_numbers.specs.Numbering.{Given}

-- the state of an object: that of the number that it keeps, or the one that was noted for its name
abbrev pub state_of : Heap → Given → ℕ → Option ℕ → Option Tree
state_of h g n (Some id) = Some (tree_at h.states id)
state_of h g n None = find nat_cmp n g.done

-- each place of a result tree has in the numbered state the state of what stands there
abbrev mutual
  pub Agrees : Heap → Given → Final → Tree → Type 0
  Agrees h g (prim k) t = t ≡ tree.prim k
  Agrees h g (frozen u) t = t ≡ u
  Agrees h g (object n kind es) t = (state_of h g n (kept h n (is_written h (object n kind es))) ≡ Some t) × (kept h n (is_written h (object n kind es)) ≡ None → AgreesIn h g es (branches_of t))

  pub AgreesIn : Heap → Given → Finals → Branches → Type 0
  AgreesIn h g none tree.none = ⊤
  AgreesIn h g none (tree.branch j t ts) = ⊥
  AgreesIn h g (entry k v es) tree.none = ⊥
  AgreesIn h g (entry k v es) (tree.branch j t ts) = (j ≡ k) × Agrees h g v t × AgreesIn h g es ts
