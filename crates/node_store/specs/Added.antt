-- The state that a node stands for, and what is measured and held of it.
use Rattle.std.specs.Prelude.{◌≡◌, ◌≤◌, ◌^◌, List, []}
use Rattle.value_model.specs.declared.key.Key.{Key}
use Rattle.value_model.specs.declared.kind.Kind.{Kind}
use Rattle.value_model.specs.declared.kind.Kind.TheVariants as kind
use Rattle.value_model.specs.Plain as plain_value
use Rattle.numbered.specs.Tree as tree
use Rattle.numbered.specs.Tree.{Tree, plain, own_weight}
use Rattle.node_store.specs.declared.node.Node.{Node}
use Rattle.node_store.specs.declared.held.Held.{Held}
use Rattle.node_store.specs.declared.held.Measures.{Measures}
use Rattle.node_store.specs.Nodes.{built}

-- the state that a node stands for, if it is added
abbrev pub state_of : List Tree → Node → Tree
state_of ts n = built ts n.kind n.keys n.cells

-- the keys that add to a weight: a Set's stand in its cells
abbrev pub stored : Kind → List Key → List Key
stored kind.Set ks = []
stored _ ks = ks

-- measures are those of a state
pub record IsTallied (t : Tree) (m : Measures) : Type 0 where
  pub own : m.own ≡ own_weight t
  pub weight : m.weight ≡ plain_value.weight (plain t)
  pub values : m.values ≡ plain_value.values (plain t)
  pub depth : m.depth ≡ plain_value.depth (plain t)
  pub containers : m.containers ≡ tree.containers t

-- measures of an accepted state
pub record IsSmallTally (m : Measures) : Type 0 where
  pub weight : m.weight ≤ 2 ^ 20
  pub values : m.values ≤ 2 ^ 20
  pub depth : m.depth ≤ 32
  pub containers : m.containers ≤ 2 ^ 20

-- the measures that are held
pub record IsHolding (h : Held) (m : Measures) : Type 0 where
  pub weight : h.weight ≡ m.weight
  pub values : h.values ≡ m.values
  pub depth : h.depth ≡ m.depth
  pub containers : h.containers ≡ m.containers
