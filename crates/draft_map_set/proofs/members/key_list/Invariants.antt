use Rattle.node_store.specs.Paged.{states}
use Rattle.std.proofs.Common.{◌≡◌, ◌++◌, map, drop}
use Rattle.run_heap.specs.declared.value.Rv.TheVariants.{Prim}
use Rattle.run_heap.specs.Operations.{keys_of, table_of}
use Rattle.draft_core.specs.Seen.{heap}
use Rattle.draft_map_set.proofs.members.key_list.Given as goal

-- what was taken and the keys left give all
abbrev pub invariant-loop-i : goal.invariant-loop-i
invariant-loop-i l =
    l.out.items ++ map Prim (drop l.i (keys_of (table_of (heap (states l.store) l.scope) l.of)))
    ≡ map Prim (keys_of (table_of (heap (states l.store) l.scope) l.of))
