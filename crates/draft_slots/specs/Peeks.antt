-- A value as it is kept.
use Rattle.std.specs.Prelude.{◌≡◌, ℕ, List, Some, slice_get}
use Rattle.node_store.specs.Nodes.{cells_of}
use Rattle.page_tables.specs.declared.cell.Cell.{Cell}
use Rattle.numbered.specs.Store.{tree_at}
use Rattle.numbered.specs.Tree.{Tree, branches_of, before}
use Rattle.run_heap.specs.declared.value.Given.{Given}
use Rattle.run_heap.specs.Heap.{after}
use Rattle.run_heap.specs.Operations.{value_at}
use Rattle.draft_slots.specs.declared.look.Look.{Look}
use Rattle.draft_slots.specs.declared.look.Look.TheVariants.{Own, Node}
use Rattle.draft_slots.specs.declared.look.Peek.{Peek}
use Rattle.draft_slots.specs.declared.look.Peek.TheVariants.{Read, Untouched}
use Rattle.draft_slots.specs.Nodes.{node_table, given_cell}

-- the cell at an index of a node, which is given out as the others of the node are
pub record IsCell (ts : List Tree) (id : ℕ) (g : Given) (i : ℕ) (c : Cell) : Type 0 where
  pub there : slice_get (cells_of (tree_at ts id)) i ≡ Some c
  pub value : value_at i (node_table g (tree_at ts id)) ≡ Some (given_cell (after g (before i (branches_of (tree_at ts id)))) c)

-- an object's own value, or a node's cell
abbrev pub IsKept : List Tree → Look → ℕ → Peek → Type 0
IsKept ts (Own c) i (Read v) = value_at i c.now.table ≡ Some v.now
IsKept ts (Own c) i (Untouched d) = ⊥
IsKept ts (Node id g) i (Read v) = ⊥
IsKept ts (Node id g) i (Untouched d) = IsCell ts id g i d.now
