-- The numbers of a result tree's containers. An object keeps its source's number exactly where it has a source and no written
-- object is reached from it, itself included; a frozen state keeps its numbers. Every other object gets the next number at its
-- first visit in post-order, keys and indexes ascending, and has the same number at every later visit.
use Rattle.std.specs.Prelude.{ℕ, ◌+◌, List, [], ◌∷◌, ◌++◌, length, Option, Some, None, Bool}
use Rattle.std.specs.FinMap.Entries.{find}
use Rattle.std.specs.Ordering.{nat_cmp}
use Rattle.value_model.specs.declared.key.Key.{Key}
use Rattle.value_model.specs.declared.kind.Kind.{Kind}
use Rattle.numbered.specs.Tree as tree
use Rattle.numbered.specs.Tree.{Tree, Branches}
use Rattle.numbered.specs.Store.{tree_at}
use Rattle.numbered.specs.Loading.{any_full}
use Rattle.run_heap.specs.Heap.{Heap}
use Rattle.result_trees.specs.Final.{Final, Finals, prim, frozen, object, none, entry}
use Rattle.result_trees.specs.Written.{is_written, kept}

-- ---- the numbers, given in turn
-- the states that got new numbers so far, in the order of their numbers, and the state of each object that was numbered
pub record Given : Type 0 where
  pub news : List Tree
  pub done : List (ℕ × Tree)

-- nothing numbered yet
abbrev pub nothing : Given
nothing = record { news = []; done = [] }

-- a further state of an object, under the next number
abbrev pub add : List Tree → ℕ → Kind → Branches × Given → Tree × Given
add ts n kind (es, g) =
    let t = tree.node (length ts + length g.news + 1) kind es in
    (t, record { news = g.news ++ t ∷ []; done = (n, t) ∷ g.done })

-- an object that keeps no number: the state that it got at an earlier visit, or a new one, after what stands in it
abbrev pub renumbered : List Tree → ℕ → Kind → (Given → Branches × Given) → Given → Option Tree → Tree × Given
renumbered ts n kind inner g (Some t) = (t, g)
renumbered ts n kind inner g None = add ts n kind (inner g)

-- an object: the state whose number it keeps, or one with a number of its own
abbrev pub numbered_object : List Tree → Heap → ℕ → Kind → (Given → Branches × Given) → Given → Option ℕ → Tree × Given
numbered_object ts h n kind inner g (Some id) = (tree_at h.states id, g)
numbered_object ts h n kind inner g None = renumbered ts n kind inner g (find nat_cmp n g.done)

-- a branch before others
abbrev pub with_branch : Key → Tree → Branches × Given → Branches × Given
with_branch k t (es, g) = (tree.branch k t es, g)

-- an entry's state, and then those behind it
abbrev pub then_entries : Key → Tree × Given → (Given → Branches × Given) → Branches × Given
then_entries k (t, g) rest = with_branch k t (rest g)

-- the numbered state of a result tree over the states ts, and what was given
abbrev mutual
  pub numbered : List Tree → Heap → Final → Given → Tree × Given
  numbered ts h (prim k) g = (tree.prim k, g)
  numbered ts h (frozen t) g = (t, g)
  numbered ts h (object n kind es) g = numbered_object ts h n kind (numbered_in ts h es) g (kept h n (is_written h (object n kind es)))

  pub numbered_in : List Tree → Heap → Finals → Given → Branches × Given
  numbered_in ts h none g = (tree.none, g)
  numbered_in ts h (entry k v es) g = then_entries k (numbered ts h v g) (numbered_in ts h es)

-- the new root, and the states that are added to a store
abbrev pub new_state : List Tree → Heap → Final → Tree
new_state ts h f = (numbered ts h f nothing).0

abbrev pub new_states : List Tree → Heap → Final → List Tree
new_states ts h f = (numbered ts h f nothing).1.news

-- one of these additions, made in turn, would be refused
abbrev pub end_full : List Tree → Heap → Final → Bool
end_full ts h f = any_full ts (new_states ts h f)
