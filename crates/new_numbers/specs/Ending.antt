-- What holds of a run's end.
use Rattle.std.specs.Prelude.{◌≡◌, ◌^◌, ◌≤◌, List, Some, ⊤}
use Rattle.value_model.specs.Plain.{depth, weight}
use Rattle.numbered.specs.Laws.{Extends}
use Rattle.numbered.specs.Store.{IsStore}
use Rattle.numbered.specs.Tree.{Tree}
use Rattle.run_heap.specs.declared.value.Rv.{Rv}
use Rattle.run_heap.specs.Heap.{Heap}
use Rattle.run_heap.specs.Sound.{IsSound, IsStored}
use Rattle.result_trees.specs.Final.{Final, prim, plain_of, final, returned}
use Rattle.result_trees.specs.Written.{CopiesStand}

-- no primitive
abbrev pub IsContainer : Final → Type 0
IsContainer (prim k) = ⊥
IsContainer _ = ⊤

-- A run that ends: over a store that extends the one at its beginning, its result is read as this tree, which is a container
-- within the limits of a state.
pub record Ends (ts : List Tree) (h : Heap) (v : Rv) (f : Final) : Type 0 where
  pub store : IsStore ts
  pub extends : Extends h.states ts
  pub sound : IsSound h
  pub copies : CopiesStand h
  pub stored : IsStored h (returned h v)
  pub tree : final h v ≡ Some f
  pub container : IsContainer f
  pub depth : depth (plain_of f) ≤ 32
  pub weight : weight (plain_of f) ≤ 2 ^ 20
