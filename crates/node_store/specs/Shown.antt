-- What a held node tells of its state.
use Rattle.std.proofs.Common.{◌≡◌, ◌≢◌, ℕ, ◌^◌, ◌<◌, ◌≤◌, List, length, get_or, Less}
use Rattle.std.specs.Prelude.{Some, slice_get}
use Rattle.value_model.specs.declared.key.Key.{Key}
use Rattle.value_model.specs.declared.kind.Kind.TheVariants as kind
use Rattle.value_model.specs.Order.{key_cmp}
use Rattle.value_model.specs.Plain as plain_value
use Rattle.value_model.specs.Plain.{Plain}
use Rattle.numbered.specs.Tree.{Tree, plain, containers, branches_of, children, before}
use Rattle.numbered.specs.Store.{IsNumber, IsStore, tree_at}
use Rattle.page_tables.specs.declared.cell.Cell.{Cell}
use Rattle.page_tables.specs.Pages as pages
use Rattle.page_tables.specs.Pages.{paged, AllBelow}
use Rattle.node_store.specs.declared.held.Held.{Held}
use Rattle.node_store.specs.Nodes.{CellBelow, cell_tree, branches, kind_of, keys_of, cells_of}
use Rattle.node_store.specs.Paged.{Paged, states, listed_at, rows_at}

-- keys that ascend strictly
abbrev pub IsAscending : List Key → Type 0
IsAscending ks = (i j : ℕ) (a b : Key) → i < j → slice_get ks i ≡ Some a → slice_get ks j ≡ Some b → key_cmp a b ≡ Less

-- an entry of a state
pub record IsRow (us : List Tree) (t : Tree) (i : ℕ) (r : Key × Cell) : Type 0 where
  pub key : kind_of t ≢ kind.List → slice_get (keys_of t) i ≡ Some r.0
  pub cell : slice_get (cells_of t) i ≡ Some r.1
  pub child : slice_get (children (branches_of t)) i ≡ Some (cell_tree us r.1)
  pub below : CellBelow us r.1

-- how many entries a node has, and what they are
pub record IsSized (s : Paged) (id n : ℕ) : Type 0 where
  pub number : IsNumber (states s) id
  pub store : IsStore (states s)
  pub branches_are : branches_of (tree_at (states s) id) ≡ branches (states s) (rows_at s id)
  pub rows : length (rows_at s id) ≡ n
  pub cells : length (cells_of (tree_at (states s) id)) ≡ n

-- all that a reading call needs to know of a held node
pub record IsRead (s : Paged) (h : Held) (id : ℕ) : Type 0 where
  pub number : IsNumber (states s) id
  pub kind : kind_of (tree_at (states s) id) ≡ h.node.kind
  pub node : listed_at s id ≡ h.node
  pub names : AllBelow (length s.pages) h.node.names
  pub branches_are : branches_of (tree_at (states s) id) ≡ branches (states s) (rows_at s id)
  pub count : h.count ≡ length (cells_of (tree_at (states s) id))
  pub rows : length (rows_at s id) ≡ h.count
  pub row_at : (i : ℕ) (r : Key × Cell) → slice_get (rows_at s id) i ≡ Some r → IsRow (states s) (tree_at (states s) id) i r
  pub starts : h.starts.items ≡ pages.starts 0 (paged s.pages h.node.names)
  pub start_in : (j : ℕ) → j < length h.starts.items → get_or h.starts.items j 0 < h.count
  pub start_count : length h.before.items ≡ length h.starts.items
  pub some : 0 < h.count → 0 < length h.starts.items
  pub first_start : get_or h.starts.items 0 0 ≡ 0
  pub first_before : get_or h.before.items 0 0 ≡ 0
  pub before_at : (j : ℕ) → j < length h.starts.items → get_or h.before.items j 0 ≡ before (get_or h.starts.items j 0) (branches_of (tree_at (states s) id))
  pub weight : h.weight ≡ plain_value.weight (plain (tree_at (states s) id))
  pub values : h.values ≡ plain_value.values (plain (tree_at (states s) id))
  pub places : h.containers ≡ containers (tree_at (states s) id)
  pub depth : h.depth ≡ plain_value.depth (plain (tree_at (states s) id))
  pub small_weight : plain_value.weight (plain (tree_at (states s) id)) ≤ 2 ^ 20
  pub small_values : plain_value.values (plain (tree_at (states s) id)) ≤ 2 ^ 20
  pub small_containers : containers (tree_at (states s) id) ≤ 2 ^ 20
  pub small_depth : plain_value.depth (plain (tree_at (states s) id)) ≤ 32
  pub small_count : h.count ≤ 2 ^ 20
