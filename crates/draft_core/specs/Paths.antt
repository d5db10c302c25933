-- The walk along the path of a draft.
use Rattle.std.proofs.Common.{◌≡◌, ℕ, zero, suc, ◌+◌, ◌-◌, ◌<◌, []}
use Rattle.std.specs.Prelude.{Some, slice_get}
use Rattle.value_model.specs.declared.key.Key.{Key}
use Rattle.numbered.specs.Tree.{Tree, Branches, branches_of, before}
use Rattle.node_store.specs.Nodes.{kind_of, keys_in}
use Rattle.run_heap.specs.Places.{step}

-- some container place stands in the entry
abbrev pub HasPlaces : ℕ → Branches → Type 0
HasPlaces i es = before i es < before (i + 1) es

-- the step to the i-th entry
abbrev pub IsStep : Tree → ℕ → Key → Type 0
IsStep t i k = (j : Key) → slice_get (keys_in (branches_of t)) i ≡ Some j → k ≡ step (kind_of t) i j
