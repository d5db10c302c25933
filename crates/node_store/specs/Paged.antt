-- What a contract sees of a store: its pages, and its nodes by their page numbers.
use Rattle.std.specs.Prelude.{◌≡◌, ℕ, zero, suc, ◌-◌, List, [], ◌∷◌, ◌++◌, length, take, get_or}
use Rattle.value_model.specs.declared.key.Key.{Key}
use Rattle.value_model.specs.declared.kind.Kind.TheVariants as kind
use Rattle.numbered.specs.Tree.{Tree}
use Rattle.page_tables.specs.declared.cell.Cell.{Cell}
use Rattle.page_tables.specs.Pages.{table}
use Rattle.node_store.specs.declared.held.Listed.{Listed}
use Rattle.node_store.specs.Nodes.{formed}

pub record Paged : Type 0 where
  pub pages : List (List (Key × Cell))
  pub nodes : List Listed

-- the states that these nodes add, each formed by the entries of its pages
abbrev pub standing : List (List (Key × Cell)) → List Tree → List Listed → List Tree
standing ps ts [] = []
standing ps ts (n ∷ ns) = let t = formed ts n.kind (table ps n.names) in t ∷ standing ps (ts ++ t ∷ []) ns

-- the states that a store's numbers stand for
unfoldable pub states : Paged → List Tree
states s = standing s.pages [] s.nodes

-- the node of a number
abbrev pub listed_at : Paged → ℕ → Listed
listed_at s id = get_or s.nodes (id - 1) (record { kind = kind.Obj; names = []; after = 0 })

-- its entries
abbrev pub rows_at : Paged → ℕ → List (Key × Cell)
rows_at s id = table s.pages (listed_at s id).names

-- how many pages there were after so many nodes, from a count on
abbrev pub pages_after : ℕ → List Listed → ℕ → ℕ
pages_after m ns zero = m
pages_after m [] (suc k) = m
pages_after m (n ∷ ns) (suc k) = pages_after n.after ns k

-- the first nodes, and the pages that there were with them
abbrev pub first : ℕ → Paged → Paged
first k s = record { pages = take (pages_after 0 s.nodes k) s.pages; nodes = take k s.nodes }

-- the second store begins with the first
pub record IsLonger (s u : Paged) : Type 0 where
  pub nodes : take (length s.nodes) u.nodes ≡ s.nodes
  pub pages : take (length s.pages) u.pages ≡ s.pages
