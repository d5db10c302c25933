-- The result tree of a run: what its result is read as, each container with the name of the object or as the frozen state that it
-- was read from.
use Rattle.std.specs.Prelude.{ℕ, zero, suc, [], ◌∷◌, Option, Some, None, option_map, if◌then◌else◌}
use Rattle.value_model.specs.declared.key.Key.{Key}
use Rattle.value_model.specs.declared.kind.Kind.{Kind}
use Rattle.value_model.specs.Plain as plain_value
use Rattle.value_model.specs.Plain.{Plain, Entries}
use Rattle.numbered.specs.Tree as tree
use Rattle.numbered.specs.Tree.{Tree}
use Rattle.numbered.specs.Store.{tree_at}
use Rattle.run_heap.specs.declared.value.Rv.{Rv}
use Rattle.run_heap.specs.declared.value.Rv.TheVariants.{Undefined, Prim, Obj, Frozen}
use Rattle.run_heap.specs.declared.content.Content.{Content}
use Rattle.run_heap.specs.Heap.{Heap}
use Rattle.run_heap.specs.Operations.{Rows, is_undefined, root_draft}

-- a primitive, a frozen state, or an object with its name, its kind and what stands in it
mutual
  pub data Final : Type 0 where
    prim : Key → Final
    frozen : Tree → Final
    object : ℕ → Kind → Finals → Final

  pub data Finals : Type 0 where
    none : Finals
    entry : Key → Final → Finals → Finals

-- the plain value: names and numbers are forgotten
abbrev mutual
  pub plain_of : Final → Plain
  plain_of (prim k) = plain_value.prim k
  plain_of (frozen t) = tree.plain t
  plain_of (object n kind es) = plain_value.node kind (plains_of es)

  pub plains_of : Finals → Entries
  plains_of none = plain_value.none
  plains_of (entry k v es) = plain_value.entry k (plain_of v) (plains_of es)

-- ---- reading
-- an entry before others, where all of them can be read
abbrev pub with_entry : Key → Option Final → Option Finals → Option Finals
with_entry k None es = None
with_entry k (Some v) None = None
with_entry k (Some v) (Some es) = Some (entry k v es)

-- what the values of a table are read as
abbrev pub read_rows : (Rv → Option Final) → Rows → Option Finals
read_rows f [] = Some none
read_rows f (e ∷ es) = with_entry e.0 (f e.1) (read_rows f es)

-- what an object with this name and content is read as
abbrev pub read_object : ℕ → (Rv → Option Final) → Option Content → Option Final
read_object n f None = None
read_object n f (Some c) = option_map (object n c.kind) (read_rows f c.table)

-- what a value is read as, at most so many objects deep
abbrev pub read_value : ℕ → Heap → Rv → Option Final
read_value levels h Undefined = None
read_value levels h (Prim k) = Some (prim k)
read_value levels h (Frozen id) = Some (frozen (tree_at h.states id))
read_value zero h (Obj r) = None
read_value (suc levels) h (Obj r) = read_object r.slot (read_value levels h) (h.object r.slot)

-- a run that returns nothing ends with the root draft
abbrev pub returned : Heap → Rv → Rv
returned h v = if is_undefined v then root_draft h else v

-- the result tree: read with as many levels as there are objects
abbrev pub final : Heap → Rv → Option Final
final h v = read_value h.next h (returned h v)
