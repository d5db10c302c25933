-- What is left of a scope at its end: laws.
use Rattle.std.proofs.Common.{◌≡◌, ◌<◌, List, arith}
use Rattle.std.specs.Prelude.{Option, Some, None}
use Rattle.std.specs.BTreeMap.{get}
use Rattle.std.specs.Ordering.{nat_cmp}
use Rattle.numbered.specs.Tree.{Tree}
use Rattle.run_heap.specs.declared.content.Content.{Content}
use Rattle.draft_core.specs.declared.scope.Scope.{Scope}
use Rattle.draft_core.proofs.Kept.{drafts_are, marked_touched, some_container, touched_is}
use Rattle.draft_core.specs.Seen.{heap, Stands}
use Rattle.draft_core.specs.Ended.{IsLeft}

first_draft : (ts : List Tree) (s : Scope) → Stands ts s → 0 < s.drafts
first_draft ts s st = let some = some_container (heap ts s) st.sound in let d = drafts_are ts s st in omega (arith, some, d)

pub root_left : (s : Scope) (o : Option Content) → get nat_cmp s.touched 0 ≡ o → IsLeft s o
root_left s None e = λ ts st. marked_touched ts s 0 None (first_draft ts s st) e
root_left s (Some c) e = λ ts st. touched_is ts s 0 (Some c) (first_draft ts s st) e
