-- A run's objects. Each has a name, which is a number: the deep copy of a state names its container places in pre-order, 0
-- being the root, so that a subtree that stands at two places gives two objects; each later object gets the next name.
use Rattle.std.specs.Prelude.{ℕ, ◌+◌, ◌-◌, List, [], ◌∷◌, length, Option, Some, None, Bool, false, not, ◌&&◌, ◌||◌, ◌==◌, nat_lt, if◌then◌else◌, slice_get}
use Rattle.value_model.specs.declared.key.Key.{Key}
use Rattle.value_model.specs.declared.kind.Kind.{Kind}
use Rattle.numbered.specs.Tree.{Tree, Branches, prim, node, none, branch, containers, place}
use Rattle.numbered.specs.Store.{tree_at}
use Rattle.run_heap.specs.declared.value.Rv.{Rv}
use Rattle.run_heap.specs.declared.value.Rv.TheVariants.{Prim, Obj, Frozen}
use Rattle.run_heap.specs.declared.value.Given.{Given}
use Rattle.run_heap.specs.declared.value.Given.TheVariants as given
use Rattle.run_heap.specs.declared.content.Content.{Content}
use Rattle.run_heap.specs.Values.{same_tables}

-- the objects of the scope with a number, which was begun at one of these states
pub record Heap : Type 0 where
  pub scope : ℕ
  -- the states that the numbers stood for when the scope was begun, and the number of the opening root
  pub states : List Tree
  pub root : ℕ
  -- the least name that no object has
  pub next : ℕ
  -- a finite map: an object for each name below `next`
  pub object : ℕ → Option Content

-- how many drafts there are: the objects of the deep copy, which have the names below this
abbrev pub drafts : Heap → ℕ
drafts h = containers (tree_at h.states h.root)

-- ---- what a subtree gives: each container a frozen node, or an object whose name tells its place
abbrev pub given_value : Given → Tree → Rv
given_value g (prim k) = Prim k
given_value given.Frozen (node id kind es) = Frozen id
given_value (given.From r) (node id kind es) = Obj r

-- how the containers behind so many others are given
abbrev pub after : Given → ℕ → Given
after given.Frozen n = given.Frozen
after (given.From r) n = given.From (record { scope = r.scope; slot = r.slot + n })

abbrev pub given_table : Given → Branches → List (Key × Rv)
given_table g none = []
given_table g (branch k v es) = (k, given_value g v) ∷ given_table (after g (containers v)) es

-- a container as it stands in its state
abbrev pub given_content : Given → Tree → Option Content
given_content g (prim k) = None
given_content g (node id kind es) = Some (record { kind = kind; table = given_table g es; source = Some id; written = false })

-- ---- the deep copy
-- the object of a container place that has this name
abbrev pub copied : ℕ → ℕ → Option Tree → Option Content
copied scope n None = None
copied scope n (Some t) = given_content (given.From (record { scope = scope; slot = n + 1 })) t

-- the object that a name has before it is written
abbrev pub opening : Heap → ℕ → Option Content
opening h n = copied h.scope n (place n (tree_at h.states h.root))

-- the heap of a scope at its beginning: the deep copy of a state, and nothing else
abbrev pub opened : ℕ → List Tree → ℕ → Heap
opened scope states root = record {
  scope = scope;
  states = states;
  root = root;
  next = containers (tree_at states root);
  object = λ n. copied scope n (place n (tree_at states root));
}

-- ---- looking
-- what a container shows: an object its content, a frozen node what stands in it; another value is no container. It is asked
-- of values that are no references of another scope
abbrev pub shown : Heap → Rv → Option Content
shown h (Obj r) = h.object r.slot
shown h (Frozen id) = given_content given.Frozen (tree_at h.states id)
shown h _ = None

-- a reference of another scope
abbrev pub is_foreign : Heap → Rv → Bool
is_foreign h (Obj r) = not (r.scope == h.scope)
is_foreign h _ = false

abbrev pub is_draft : Heap → Rv → Bool
is_draft h (Obj r) = (r.scope == h.scope) && nat_lt r.slot (drafts h)
is_draft h _ = false

-- ---- writing
-- an object with another table: its mark is set where the two differ, and stays set
abbrev pub rewritten : List (Key × Rv) → Content → Content
rewritten t c = record { kind = c.kind; table = t; source = c.source; written = c.written || not (same_tables c.table t) }

-- the heap with another content at a name
abbrev pub update : ℕ → Content → Heap → Heap
update n c h = record {
  scope = h.scope;
  states = h.states;
  root = h.root;
  next = h.next;
  object = λ m. if m == n then Some c else h.object m;
}

-- the heap after the table of an object was rewritten
abbrev pub write_table : List (Key × Rv) → Content → Rv → Heap → Heap
write_table t c (Obj r) h = update r.slot (rewritten t c) h
write_table t c _ h = h

-- ---- new objects, in the order in which they are made
abbrev pub with_objects : List Content → Heap → Heap
with_objects cs h = record {
  scope = h.scope;
  states = h.states;
  root = h.root;
  next = h.next + length cs;
  object = λ n. if nat_lt n h.next then h.object n else slice_get cs (n - h.next);
}

abbrev pub with_object : Content → Heap → Heap
with_object c h = with_objects (c ∷ []) h

-- the reference of the next object
abbrev pub next_object : Heap → Rv
next_object h = Obj (record { scope = h.scope; slot = h.next })

-- a fresh object: a literal has no source
abbrev pub fresh : Kind → List (Key × Rv) → Content
fresh kind t = record { kind = kind; table = t; source = None; written = false }
