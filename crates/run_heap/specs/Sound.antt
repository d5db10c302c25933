-- What holds of every heap of a run.
use Rattle.std.specs.Prelude.{◌≡◌, ◌≢◌, ℕ, ◌<◌, ◌≤◌, List, [], ◌∷◌, Option, Some, None, Bool, true, false, not, ◌&&◌, IsTrue, ⊤}
use Rattle.std.specs.FinMap.Entries.{is_sorted}
use Rattle.std.specs.Ordering.{is_eq}
use Rattle.value_model.specs.declared.key.Key.{Key}
use Rattle.value_model.specs.declared.key.Key.TheVariants as key
use Rattle.value_model.specs.declared.kind.Kind.{Kind}
use Rattle.value_model.specs.declared.kind.Kind.TheVariants as kind
use Rattle.value_model.specs.Limits.{is_long_text, is_reserved_text, is_long_key}
use Rattle.value_model.specs.Order.{key_cmp}
use Rattle.numbered.specs.Store.{IsNumber, IsStore}
use Rattle.run_heap.specs.declared.value.Rv.{Rv}
use Rattle.run_heap.specs.declared.value.Rv.TheVariants.{Undefined, Prim, Obj, Frozen}
use Rattle.run_heap.specs.declared.content.Content.{Content}
use Rattle.run_heap.specs.Heap.{Heap, drafts, opening}
use Rattle.run_heap.specs.Operations.{Rows, source_in}

-- a value that an object may hold: of this heap, and not undefined
abbrev pub IsStored : Heap → Rv → Type 0
IsStored h Undefined = ⊥
IsStored h (Prim k) = ⊤
IsStored h (Obj r) = (r.scope ≡ h.scope) × (r.slot < h.next)
IsStored h (Frozen id) = IsNumber h.states id

-- a value of this heap
abbrev pub Fits : Heap → Rv → Type 0
Fits h Undefined = ⊤
Fits h v = IsStored h v

-- what a call may be handed: a reference of this scope names one of its objects, a frozen node was there at its beginning
abbrev pub Owned : Heap → Rv → Type 0
Owned h Undefined = ⊤
Owned h (Prim k) = ⊤
Owned h (Obj r) = r.scope ≡ h.scope → r.slot < h.next
Owned h (Frozen id) = IsNumber h.states id

abbrev pub AllOwned : Heap → List Rv → Type 0
AllOwned h [] = ⊤
AllOwned h (v ∷ vs) = Owned h v × AllOwned h vs

abbrev pub AllStored : Heap → List Rv → Type 0
AllStored h [] = ⊤
AllStored h (v ∷ vs) = IsStored h v × AllStored h vs

abbrev pub RowsStored : Heap → Rows → Type 0
RowsStored h [] = ⊤
RowsStored h (e ∷ es) = IsStored h e.1 × RowsStored h es

-- the keys that may be set: an object's are texts that aren't reserved, none is too long, and a Set's value is its key
abbrev pub may_stand : Kind → Key → Rv → Bool
may_stand kind.Obj (key.Text s) v = not (is_reserved_text s) && not (is_long_text s)
may_stand kind.Obj _ v = false
may_stand kind.List key.Null v = true
may_stand kind.List _ v = false
may_stand kind.Map k v = not (is_long_key k)
may_stand kind.Set k (Prim j) = is_eq (key_cmp k j) && not (is_long_key k)
may_stand kind.Set k _ = false

abbrev pub all_stand : Kind → Rows → Bool
all_stand kind [] = true
all_stand kind (e ∷ es) = may_stand kind e.0 e.1 && all_stand kind es

-- the keys ascend strictly, where there are keys
abbrev pub ascends : Kind → Rows → Bool
ascends kind.List t = true
ascends _ t = is_sorted key_cmp t

-- a table that an object may have
pub record IsTable (h : Heap) (of : Kind) (t : Rows) : Type 0 where
  pub ascends : IsTrue (ascends of t)
  pub stand : IsTrue (all_stand of t)
  pub stored : RowsStored h t

-- an object of this heap
abbrev pub IsObject : Heap → Rv → Type 0
IsObject h (Obj r) = (r.scope ≡ h.scope) × (r.slot < h.next)
IsObject h _ = ⊥

-- a container: an object of this heap, or a node that was there at its beginning
abbrev pub IsContainer : Heap → Rv → Type 0
IsContainer h (Frozen id) = IsNumber h.states id
IsContainer h v = IsObject h v

abbrev pub IsContent : Heap → Option Content → Type 0
IsContent h None = ⊤
IsContent h (Some c) = IsTable h c.kind c.table

-- an object that was opened on another: it has the kind and the source, and is that one as long as it isn't written
abbrev pub IsOpenedAs : Option Content → Option Content → Type 0
IsOpenedAs None b = ⊥
IsOpenedAs (Some c) None = ⊥
IsOpenedAs (Some c) (Some b) = (c.kind ≡ b.kind) × (c.source ≡ b.source) × (c.written ≡ false → c ≡ b)

abbrev pub HasSource : Heap → Option ℕ → Type 0
HasSource h None = ⊤
HasSource h (Some id) = IsNumber h.states id

-- names are given without a gap; every object's table is one that it may have; drafts are as they were opened until they are
-- written, and keep their kinds and sources
pub record IsSound (h : Heap) : Type 0 where
  pub store : IsStore h.states
  pub root : IsNumber h.states h.root
  pub copied : drafts h ≤ h.next
  pub full : (n : ℕ) → n < h.next → h.object n ≢ None
  pub fresh : (n : ℕ) → h.next ≤ n → h.object n ≡ None
  pub tables : (n : ℕ) → IsContent h (h.object n)
  pub drafts : (n : ℕ) → n < drafts h → IsOpenedAs (h.object n) (opening h n)
  pub sources : (n : ℕ) → HasSource h (source_in (h.object n))

-- the kind and the source stay, and so does a mark that was set
abbrev pub Keeps : Option Content → Option Content → Type 0
Keeps None d = ⊤
Keeps (Some c) None = ⊥
Keeps (Some c) (Some d) = (d.kind ≡ c.kind) × (d.source ≡ c.source) × (c.written ≡ true → d.written ≡ true)

-- a later heap of the same scope: its names go on, and objects keep what a write leaves
pub record Grows (g h : Heap) : Type 0 where
  pub scope : h.scope ≡ g.scope
  pub states : h.states ≡ g.states
  pub root : h.root ≡ g.root
  pub more : g.next ≤ h.next
  pub keeps : (n : ℕ) → Keeps (g.object n) (h.object n)
