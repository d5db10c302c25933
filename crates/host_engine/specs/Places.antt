-- Which entry of a node a step leads to.
use Rattle.std.specs.Prelude.{◌≡◌, ℕ, ◌<◌, ◌≤◌, ℤ, pos, negsuc, Option, Some, None, length, slice_get}
use Rattle.value_model.specs.declared.key.Key.{Key}
use Rattle.value_model.specs.declared.key.Key.TheVariants.{Int}
use Rattle.numbered.specs.Tree.{Tree, branches_of, children}
use Rattle.node_store.specs.Nodes.{cells_of}
use Rattle.host_machine.specs.Paths.{subtree}

-- the entry to which a step leads
abbrev pub IsEntry : Tree → Key → Option ℕ → Type 0
IsEntry t k None = subtree k t ≡ None
IsEntry t k (Some i) = (i < length (cells_of t)) × (subtree k t ≡ slice_get (children (branches_of t)) i)

-- no index of a list of so many elements
abbrev pub IsNoIndex : ℤ → ℕ → Type 0
IsNoIndex (pos i) count = count ≤ i
IsNoIndex (negsuc i) count = Unit {0}

abbrev pub IsNoStep : Key → ℕ → Type 0
IsNoStep (Int n) count = IsNoIndex n count
IsNoStep _ count = Unit {0}
