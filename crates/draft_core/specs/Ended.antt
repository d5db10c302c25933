-- What is left of a scope at its end.
use Rattle.std.proofs.Common.{◌≡◌, List, false}
use Rattle.std.specs.Prelude.{Option, Some, None}
use Rattle.numbered.specs.Tree.{Tree}
use Rattle.run_heap.specs.declared.content.Content.{Content}
use Rattle.run_heap.specs.Heap.{shown}
use Rattle.run_heap.specs.Operations.{marked, root_draft}
use Rattle.draft_core.specs.declared.scope.Scope.{Scope}
use Rattle.draft_core.specs.Seen.{heap, Stands}

-- the root draft's content, or None where no write left it different
abbrev pub IsLeft : Scope → Option Content → Type 0
IsLeft s None = (ts : List Tree) → Stands ts s → marked (heap ts s) (root_draft (heap ts s)) ≡ false
IsLeft s (Some c) = (ts : List Tree) → Stands ts s → shown (heap ts s) (root_draft (heap ts s)) ≡ Some c
