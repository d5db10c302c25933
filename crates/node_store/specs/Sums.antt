-- What the cells of a table measure together.
use Rattle.std.proofs.Common.{◌≡◌, ℕ, ◌+◌, ◌^◌, ◌≤◌, List, [], ◌∷◌, max}
use Rattle.value_model.specs.declared.key.Key.{Key}
use Rattle.value_model.specs.declared.kind.Kind.{Kind}
use Rattle.value_model.specs.declared.kind.Kind.TheVariants as kind
use Rattle.value_model.specs.Plain as plain_value
use Rattle.value_model.specs.Plain.{key_weight, place_weight}
use Rattle.numbered.specs.Tree as tree
use Rattle.numbered.specs.Tree.{Tree, plain, child_weight}
use Rattle.page_tables.specs.declared.cell.Cell.{Cell}
use Rattle.node_store.specs.declared.held.Measures.{Measures}
use Rattle.node_store.specs.Nodes.{cell_tree}

abbrev pub own_weights : List Tree → List Cell → ℕ
own_weights ts [] = 0
own_weights ts (c ∷ cs) = child_weight (cell_tree ts c) + own_weights ts cs

abbrev pub cell_weights : List Tree → List Cell → ℕ
cell_weights ts [] = 0
cell_weights ts (c ∷ cs) = plain_value.weight (plain (cell_tree ts c)) + cell_weights ts cs

abbrev pub cell_values : List Tree → List Cell → ℕ
cell_values ts [] = 0
cell_values ts (c ∷ cs) = plain_value.values (plain (cell_tree ts c)) + cell_values ts cs

abbrev pub deepest_cell : List Tree → List Cell → ℕ
deepest_cell ts [] = 0
deepest_cell ts (c ∷ cs) = max (plain_value.depth (plain (cell_tree ts c))) (deepest_cell ts cs)

abbrev pub cell_containers : List Tree → List Cell → ℕ
cell_containers ts [] = 0
cell_containers ts (c ∷ cs) = tree.containers (cell_tree ts c) + cell_containers ts cs

abbrev pub key_sum : List Key → ℕ
key_sum [] = 0
key_sum (k ∷ ks) = key_weight k + key_sum ks

-- what the keys add: nothing in a list or a Set
abbrev pub keys_weight : Kind → List Key → ℕ
keys_weight kind.Obj ks = key_sum ks
keys_weight kind.Map ks = key_sum ks
keys_weight _ ks = 0

-- a table whose state is within the limits
pub record IsLight (ts : List Tree) (of : Kind) (ks : List Key) (cs : List Cell) : Type 0 where
  pub own : 1 + keys_weight of ks + own_weights ts cs ≤ 2 ^ 20
  pub weight : 1 + keys_weight of ks + cell_weights ts cs ≤ 2 ^ 20
  pub values : 1 + cell_values ts cs ≤ 2 ^ 20
  pub depth : 1 + deepest_cell ts cs ≤ 32
  pub places : 1 + cell_containers ts cs ≤ 2 ^ 20

-- what a table measures
pub record IsMeasured (ts : List Tree) (of : Kind) (ks : List Key) (cs : List Cell) (m : Measures) : Type 0 where
  pub own : m.own ≡ 1 + keys_weight of ks + own_weights ts cs
  pub weight : m.weight ≡ 1 + keys_weight of ks + cell_weights ts cs
  pub values : m.values ≡ 1 + cell_values ts cs
  pub depth : m.depth ≡ 1 + deepest_cell ts cs
  pub places : m.containers ≡ 1 + cell_containers ts cs

-- ---- a table's measures are those of its keys and cells
abbrev pub place_weights : Kind → List Key → ℕ
place_weights of [] = 0
place_weights of (k ∷ ks) = place_weight of k + place_weights of ks
