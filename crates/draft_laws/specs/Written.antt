-- What a write leaves.
use Rattle.std.specs.Prelude.{◌≡◌, false, not, ◌||◌}
use Rattle.run_heap.specs.declared.value.Rv.{Rv}
use Rattle.run_heap.specs.Heap.{Heap, shown, is_foreign}
use Rattle.run_heap.specs.Operations.{marked, table_of, kind_of, source}
use Rattle.run_heap.specs.Values.{same, same_tables}

-- an object was written: it is marked exactly where it was before or where its table isn't the same now, keeps its kind and its
-- source, and every other value of the scope shows what it did
pub record IsWritten (of : Rv) (old new : Heap) : Type 0 where
  pub mark : marked new of ≡ (marked old of || not (same_tables (table_of old of) (table_of new of)))
  pub kind : kind_of new of ≡ kind_of old of
  pub source : source new of ≡ source old of
  pub others : (v : Rv) → is_foreign old v ≡ false → same v of ≡ false → shown new v ≡ shown old v
  pub scope : new.scope ≡ old.scope
  pub states : new.states ≡ old.states
  pub root : new.root ≡ old.root
  pub next : new.next ≡ old.next
