-- What the store holds of each node, and when it is right.
use Rattle.std.specs.Prelude.{◌≡◌, ℕ, ◌+◌, ◌≤◌, List, [], ◌∷◌, ◌++◌, length, map, get_or, ⊤}
use Rattle.value_model.specs.declared.key.Key.{Key}
use Rattle.value_model.specs.declared.kind.Kind.{Kind}
use Rattle.value_model.specs.declared.kind.Kind.TheVariants as kind
use Rattle.value_model.specs.Plain as plain_value
use Rattle.numbered.specs.Tree.{Tree, node, plain, containers, own_weight}
use Rattle.numbered.specs.Store.{tree_at, used, IsNext}
use Rattle.page_tables.specs.declared.cell.Cell.{Cell}
use Rattle.page_tables.specs.Pages as pages
use Rattle.page_tables.specs.Pages.{paged, joined, table, AllBelow}
use Rattle.node_store.specs.declared.held.Held.{Held}
use Rattle.node_store.specs.declared.held.Listed.{Listed}
use Rattle.node_store.specs.Nodes.{CellsBelow, cell_tree, branches, formed}

-- the nodes as they are listed
abbrev pub listed : List Held → List Listed
listed [] = []
listed (h ∷ hs) = h.node ∷ listed hs

-- how many containers come before each cell, from a count on
abbrev pub sums : List Tree → ℕ → List Cell → List ℕ
sums ts at [] = []
sums ts at (c ∷ cs) = at ∷ sums ts (at + containers (cell_tree ts c)) cs

-- the numbers at places
abbrev pub picked : List ℕ → List ℕ → List ℕ
picked ns [] = []
picked ns (i ∷ is) = get_or ns i 0 ∷ picked ns is

-- an object and a Map have a key for each cell
abbrev pub IsPaired : Kind → List Key → List Cell → Type 0
IsPaired kind.Obj ks cs = length ks ≡ length cs
IsPaired kind.Map ks cs = length ks ≡ length cs
IsPaired _ ks cs = ks ≡ []

-- what is kept of a node with these pages is what its state says
pub record IsKept (us : List (List (Key × Cell))) (ts : List Tree) (h : Held) : Type 0 where
  pub below : CellsBelow ts (map (λ r. r.1) (joined us))
  pub next : IsNext ts (formed ts h.node.kind (joined us))
  pub count : h.count ≡ length (joined us)
  pub inside : AllBelow (length (joined us)) (pages.starts 0 us)
  pub starts : h.starts.items ≡ pages.starts 0 us
  pub before : h.before.items ≡ picked (sums ts 0 (map (λ r. r.1) (joined us))) (pages.starts 0 us)
  pub total : h.total ≡ used ts + own_weight (formed ts h.node.kind (joined us))
  pub weight : h.weight ≡ plain_value.weight (plain (formed ts h.node.kind (joined us)))
  pub values : h.values ≡ plain_value.values (plain (formed ts h.node.kind (joined us)))
  pub containers : h.containers ≡ containers (formed ts h.node.kind (joined us))
  pub depth : h.depth ≡ plain_value.depth (plain (formed ts h.node.kind (joined us)))
  pub room : h.node.after ≤ h.total

-- each node is kept right, among the states before it
abbrev pub Sound : List (List (Key × Cell)) → List Tree → List Held → Type 0
Sound ps ts [] = ⊤
Sound ps ts (h ∷ hs) = IsKept (paged ps h.node.names) ts h × Sound ps (ts ++ formed ts h.node.kind (table ps h.node.names) ∷ []) hs

-- each node's pages were there after its addition, and the last node has the last page
abbrev pub InPages : ℕ → ℕ → List Listed → Type 0
InPages most m [] = m ≡ most
InPages most m (n ∷ ns) = (m ≤ n.after) × AllBelow n.after n.names × InPages most n.after ns

-- the node of a number
pub record IsHeld (us : List (List (Key × Cell))) (ts : List Tree) (h : Held) (id : ℕ) : Type 0 where
  pub tree : tree_at ts id ≡ node id h.node.kind (branches ts (joined us))
  pub below : CellsBelow ts (map (λ r. r.1) (joined us))
  pub count : h.count ≡ length (joined us)
  pub inside : AllBelow (length (joined us)) (pages.starts 0 us)
  pub starts : h.starts.items ≡ pages.starts 0 us
  pub before : h.before.items ≡ picked (sums ts 0 (map (λ r. r.1) (joined us))) (pages.starts 0 us)
  pub weight : h.weight ≡ plain_value.weight (plain (tree_at ts id))
  pub values : h.values ≡ plain_value.values (plain (tree_at ts id))
  pub containers : h.containers ≡ containers (tree_at ts id)
  pub depth : h.depth ≡ plain_value.depth (plain (tree_at ts id))
