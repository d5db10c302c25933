-- What a look at a container shows, over a store of these states.
use Rattle.std.specs.Prelude.{◌≡◌, ℕ, ◌+◌, ◌<◌, ◌≤◌, ◌^◌, List, [], length, Option, Some, None, IsTrue, ⊤}
use Rattle.std.specs.FinMap.Entries.{is_sorted, put}
use Rattle.value_model.specs.declared.kind.Kind.{Kind}
use Rattle.value_model.specs.declared.kind.Kind.TheVariants as kind
use Rattle.value_model.specs.Order.{key_cmp}
use Rattle.numbered.specs.Store.{IsNumber, IsStore, tree_at}
use Rattle.numbered.specs.Tree.{Tree, branches_of, containers_in}
use Rattle.run_heap.specs.declared.value.Rv.{Rv}
use Rattle.run_heap.specs.declared.value.Rv.TheVariants.{Prim}
use Rattle.run_heap.specs.declared.value.Given.{Given}
use Rattle.run_heap.specs.declared.value.Given.TheVariants as given
use Rattle.run_heap.specs.declared.content.Content.{Content}
use Rattle.run_heap.specs.Heap.{given_content}
use Rattle.run_heap.specs.Operations.{Rows, rows_of, value_at, without, set_element, spliced}
use Rattle.run_heap.specs.Sound.{ascends, all_stand}
use Rattle.draft_slots.specs.declared.change.Change.{Change}
use Rattle.draft_slots.specs.declared.change.Change.TheVariants as change
use Rattle.draft_slots.specs.declared.look.Look.{Look}
use Rattle.draft_slots.specs.declared.look.Look.TheVariants.{Own, Node}

-- the content that is looked at
abbrev pub looked : List Tree → Look → Option Content
looked ts (Own c) = Some c.now
looked ts (Node id g) = given_content g (tree_at ts id)

-- the names that a node gives fit 64 bits
abbrev pub Fit : Given → Tree → Type 0
Fit given.Frozen t = ⊤
Fit (given.From r) t = r.slot + containers_in (branches_of t) < 2 ^ 64

-- so does the next name after so many
abbrev pub GivenFits : Given → ℕ → Type 0
GivenFits given.Frozen n = ⊤
GivenFits (given.From r) n = r.slot + n < 2 ^ 64

-- what a look needs of the store, and of an object's own table
abbrev pub IsLook : List Tree → Look → Type 0
IsLook ts (Own c) = IsTrue (ascends c.now.kind c.now.table)
IsLook ts (Node id g) = IsStore ts × IsNumber ts id × Fit g (tree_at ts id)

-- the kind of a content that is there
abbrev pub kind_in : Option Content → Kind
kind_in None = kind.Obj
kind_in (Some c) = c.kind

-- the value of an entry, as a call answers it
abbrev pub IsValueAt : ℕ → Option Content → Rv → Type 0
IsValueAt i c v = value_at i (rows_of c) ≡ Some v

-- ---- changes of one table
abbrev pub changed : Change → Rows → Rows
changed (change.Set k v) t = put key_cmp k v t
changed (change.Unset k) t = without k.now t
changed (change.Element i v) t = set_element i v t
changed (change.Splice from to items) t = spliced from to items.now t
changed change.Clear t = []

-- an entry is set or removed where keys ascend, an element where there is a list, and an index is at most the length
abbrev pub MayChange : Change → Rows → Type 0
MayChange (change.Set k v) t = IsTrue (is_sorted key_cmp t)
MayChange (change.Unset k) t = IsTrue (is_sorted key_cmp t)
MayChange (change.Element i v) t = (i ≤ length t) × IsTrue (all_stand kind.List t)
MayChange (change.Splice from to items) t = (from ≤ to) × (to ≤ length t)
MayChange change.Clear t = ⊤
