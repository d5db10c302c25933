-- A run that ends: its state is one of the store with the new states, and shows what the result is read as.
use Rattle.std.proofs.Common.{◌≡◌, List, [], ◌++◌, sym, subst, append-nil}
use Rattle.numbered.specs.Store.{IsStore, IsOf}
use Rattle.numbered.specs.Tree.{Tree, plain}
use Rattle.run_heap.specs.declared.value.Rv.{Rv}
use Rattle.run_heap.specs.Heap.{Heap}
use Rattle.result_trees.specs.Final.{Final, plain_of, returned}
use Rattle.result_trees.proofs.OrderLaws.{accepted}
use Rattle.result_trees.proofs.Readings.{Reads, reads}
use Rattle.new_numbers.specs.Ending.{Ends}
use Rattle.new_numbers.specs.Numbering.{nothing, numbered, new_state, new_states}
use Rattle.new_numbers.proofs.NumberLaws.{IsNumbered, number_law}

module _ (ts : List Tree) (h : Heap) (v : Rv) (f : Final) (e : Ends ts h v f) where
  pub read : Reads h f (returned h v)
  read = reads h.next h (returned h v) f e.tree

  store_now : IsStore (ts ++ [])
  store_now = subst IsStore (sym (append-nil ts)) e.store

  ended : IsNumbered ts h e.store e.extends e.sound e.copies f nothing (numbered ts h f nothing)
  ended = number_law ts h e.store e.extends e.sound e.copies f (returned h v) nothing (record { store = store_now; done = tt }) e.stored read (accepted h e.sound f (returned h v) e.stored read e.depth e.weight)

  pub end_value : plain (new_state ts h f) ≡ plain_of f
  end_value = ended.plain

  pub end_store : IsStore (ts ++ new_states ts h f)
  end_store = ended.given.store

  pub end_of_store : IsOf (ts ++ new_states ts h f) (new_state ts h f)
  end_of_store = ended.of
