-- What `current` copies. What is read from a draft becomes fresh objects, one for each container place, as a deep copy of a state
-- has them; each has as source the number that what it copies would keep at that moment, where there is one.
use Rattle.std.specs.Prelude.{ℕ, zero, suc, ◌+◌, ◌-◌, Option, Some, None, option_map, nat_lt, if◌then◌else◌, ◌/◌}
use Rattle.value_model.specs.declared.kind.Kind.{Kind}
use Rattle.value_model.specs.Plain.{Plain, weight, values}
use Rattle.numbered.specs.Tree as tree
use Rattle.numbered.specs.Tree.{Tree, Branches, containers, place}
use Rattle.numbered.specs.Store.{tree_at}
use Rattle.run_heap.specs.declared.content.Content.{Content}
use Rattle.run_heap.specs.declared.value.Rv.{Rv}
use Rattle.run_heap.specs.Heap.{Heap, copied}
use Rattle.run_heap.specs.Operations.{named_value}
use Rattle.result_trees.specs.Final.{Final, Finals, prim, frozen, object, none, entry}
use Rattle.result_trees.specs.Written.{is_written, kept}

-- ---- the sources
-- a container whose number is known keeps that state's numbers, every other one has the number 0
abbrev pub sourced : Heap → Kind → Branches → Option ℕ → Tree
sourced h kind es (Some id) = tree_at h.states id
sourced h kind es None = tree.node 0 kind es

-- what is read from a value, each container with the number of its source
abbrev mutual
  pub sources : Heap → Final → Tree
  sources h (prim k) = tree.prim k
  sources h (frozen t) = t
  sources h (object n kind es) = sourced h kind (sources_in h es) (kept h n (is_written h (object n kind es)))

  pub sources_in : Heap → Finals → Branches
  sources_in h none = tree.none
  sources_in h (entry k v es) = tree.branch k (sources h v) (sources_in h es)

-- ---- the objects
-- an object made from the number 0 has no source
abbrev pub source_of : Option ℕ → Option ℕ
source_of None = None
source_of (Some zero) = None
source_of (Some (suc n)) = Some (suc n)

abbrev pub made : Content → Content
made c = record { kind = c.kind; table = c.table; source = source_of c.source; written = c.written }

-- the object of a place of the copy, by its name
abbrev pub made_at : ℕ → ℕ → Option Tree → Option Content
made_at scope n t = option_map made (copied scope n t)

-- the heap with a copy: its places have the next names in pre-order
abbrev pub with_copy : Tree → Heap → Heap
with_copy t h = record {
  scope = h.scope;
  states = h.states;
  root = h.root;
  next = h.next + containers t;
  object = λ n. if nat_lt n h.next then h.object n else made_at h.scope n (place (n - h.next) t);
}

-- what stands for the copy
abbrev pub copy_root : Tree → Heap → Rv
copy_root (tree.prim k) h = named_value h.scope (tree.prim k)
copy_root (tree.node id kind es) h = named_value h.scope (tree.node h.next kind es)

-- ---- the charge
-- how many values there are, and a 64th of what they weigh besides
abbrev pub charge : Plain → ℕ
charge v = values v + (weight v - values v) / 64
