-- Which objects lead to a written one, and so which keep the numbers of their sources.
use Rattle.std.specs.Prelude.{◌≡◌, ℕ, zero, suc, ◌+◌, ◌<◌, ◌≤◌, List, [], ◌∷◌, Option, Some, None, Bool, false, ◌||◌, if◌then◌else◌, ⊤}
use Rattle.numbered.specs.Store.{tree_at}
use Rattle.numbered.specs.Tree.{Tree, containers, place}
use Rattle.run_heap.specs.declared.content.Content.{Content}
use Rattle.run_heap.specs.Heap.{Heap, drafts, copied}
use Rattle.run_heap.specs.Operations.{is_marked, source_in}
use Rattle.run_heap.specs.Sound.{IsOpenedAs}
use Rattle.result_trees.specs.Final.{Final, Finals, prim, frozen, object, none, entry}

-- a written object is reached
abbrev mutual
  pub is_written : Heap → Final → Bool
  is_written h (prim k) = false
  is_written h (frozen t) = false
  is_written h (object n kind es) = is_marked (h.object n) || any_written h es

  pub any_written : Heap → Finals → Bool
  any_written h none = false
  any_written h (entry k v es) = is_written h v || any_written h es

-- the number that an object keeps
abbrev pub kept : Heap → ℕ → Bool → Option ℕ
kept h n written = if written then None else source_in (h.object n)

-- ---- told by names alone: the objects of the places below a place have the names behind its own
-- one of the objects with the next `count` names from n on is written
abbrev pub any_marked : Heap → ℕ → ℕ → Bool
any_marked h n zero = false
any_marked h n (suc count) = is_marked (h.object n) || any_marked h (suc n) count

-- the objects from n on were opened on the container places of this state, in pre-order, and are so until they are written
abbrev pub AreOpenedOn : Heap → ℕ → Tree → Type 0
AreOpenedOn h n t = (q : ℕ) → q < containers t → IsOpenedAs (h.object (n + q)) (copied h.scope (n + q) (place q t))

-- Each object behind the drafts that has a source was made as a copy of that state, with the objects of its places behind it.
abbrev pub CopiesStand : Heap → Type 0
CopiesStand h = (n id : ℕ) → drafts h ≤ n → source_in (h.object n) ≡ Some id → AreOpenedOn h n (tree_at h.states id)

-- objects without a source, as literals are
abbrev pub AllWithoutSource : List Content → Type 0
AllWithoutSource [] = ⊤
AllWithoutSource (c ∷ cs) = (c.source ≡ None) × AllWithoutSource cs
