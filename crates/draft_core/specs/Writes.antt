-- What calls that write ask, and what they cost.
use Rattle.std.specs.Prelude.{ℕ, ◌+◌, Option, Some, None, IsTrue, ⊤, length}
use Rattle.std.specs.BTreeMap.{btree_map_len}
use Rattle.value_model.specs.declared.key.Key.{Key}
use Rattle.value_model.specs.declared.kind.Kind.{Kind}
use Rattle.run_heap.specs.declared.value.Rv.{Rv}
use Rattle.run_heap.specs.declared.content.Content.{Content}
use Rattle.run_heap.specs.Heap.{Heap, shown}
use Rattle.run_heap.specs.Operations.{Rows, kind_of}
use Rattle.run_heap.specs.Sound.{IsStored, IsTable, may_stand}
use Rattle.draft_core.specs.declared.scope.Scope.{Scope}

-- how many objects have a table of their own
abbrev pub slots : Scope → ℕ
slots s = btree_map_len s.touched + length s.later.items

abbrev pub MayStandIn : Option Kind → Key → Rv → Type 0
MayStandIn None k v = ⊤
MayStandIn (Some kind) k v = IsTrue (may_stand kind k v)

-- the value may be stored, and stand at the key in the object's kind
abbrev pub MayStand : Heap → Rv → Key → Option Rv → Type 0
MayStand h of k None = ⊤
MayStand h of k (Some v) = IsStored h v × MayStandIn (kind_of h of) k v

-- the object's table may be what f makes of it
abbrev pub KeepsIn : Heap → Option Content → (Rows → Rows) → Type 0
KeepsIn h None f = ⊤
KeepsIn h (Some c) f = IsTable h c.kind (f c.table)

abbrev pub KeepsTable : Heap → Rv → (Rows → Rows) → Type 0
KeepsTable h of f = KeepsIn h (shown h of) f
