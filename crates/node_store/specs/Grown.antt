-- The states of the nodes that are held.
use Rattle.std.proofs.Common.{◌≡◌, ℕ, List, ◌++◌, get_or, take}
use Rattle.value_model.specs.declared.key.Key.{Key}
use Rattle.numbered.specs.Tree.{Tree}
use Rattle.page_tables.specs.declared.cell.Cell.{Cell}
use Rattle.page_tables.specs.Pages.{paged, table}
use Rattle.node_store.specs.declared.held.Held.{Held}
use Rattle.node_store.specs.Nodes.{formed}
use Rattle.node_store.specs.Paged.{standing}
use Rattle.node_store.specs.Kept.{IsKept, listed}

-- ---- the node at a place
pub record IsAt (ps : List (List (Key × Cell))) (ts : List Tree) (hs : List Held) (i : ℕ) (h : Held) : Type 0 where
  pub kept : IsKept (paged ps h.node.names) (ts ++ take i (standing ps ts (listed hs))) h
  pub same : (d : Tree) → get_or (standing ps ts (listed hs)) i d ≡ formed (ts ++ take i (standing ps ts (listed hs))) h.node.kind (table ps h.node.names)
