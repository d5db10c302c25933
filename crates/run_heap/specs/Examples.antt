-- Worked rows. Scope 7 is begun at the state {"a":{"x":0},"b":{"x":0}}, whose container a is 1, b is 2, and the root 3; its
-- drafts are 0 (the root), 1 (a) and 2 (b).
use Rattle.std.proofs.Math.ListN.{replicate}
use Rattle.std.specs.Prelude.{◌≡◌, ℕ, pos, negsuc, List, [], ◌∷◌, codes, refl, Option, Some, None, Bool, true, false, Result, Ok, Err}
use Rattle.value_model.specs.declared.key.Key.{Key}
use Rattle.value_model.specs.declared.key.Key.TheVariants.{Null, Int, Text}
use Rattle.value_model.specs.declared.kind.Kind.TheVariants as kind
use Rattle.value_model.specs.Plain as plain
use Rattle.numbered.specs.Tree.{Tree, prim, node, none, branch}
use Rattle.run_heap.specs.declared.value.Rv.{Rv}
use Rattle.run_heap.specs.declared.value.Rv.TheVariants.{Undefined, Prim, Obj, Frozen}
use Rattle.run_heap.specs.declared.content.Content.{Content}
use Rattle.run_heap.specs.declared.fault.DraftFault.{DraftFault}
use Rattle.run_heap.specs.declared.fault.DraftFault.TheVariants as fault
use Rattle.run_heap.specs.Heap.{Heap, opened, shown, fresh}
use Rattle.run_heap.specs.Operations.{get, put_at, remove_at, keys, len, original, set_key, splice_at, empty, with_plain, plain_value, marked, source, any_written, new_of}
use Rattle.run_heap.specs.Places.{place_of}

abbrev a : Key
a = Text (codes "a")

abbrev b : Key
b = Text (codes "b")

abbrev x : Key
x = Text (codes "x")

abbrev int : ℕ → Key
int n = Int (pos n)

abbrev inner : ℕ → Tree
inner id = node id kind.Obj (branch x (prim (int 0)) none)

abbrev top : Tree
top = node 3 kind.Obj (branch a (inner 1) (branch b (inner 2) none))

abbrev start : Heap
start = opened 7 (inner 1 ∷ inner 2 ∷ top ∷ []) 3

abbrev object : ℕ → Rv
object n = Obj (record { scope = 7; slot = n })

-- the heap that a call leaves
abbrev left : {X : Type 0} → Heap → Result (Heap × X) DraftFault → Heap
left h (Ok p) = p.0
left h (Err e) = h

abbrev content : List (Key × Rv) → ℕ → Bool → Option Content
content t id written = Some (record { kind = kind.Obj; table = t; source = Some id; written = written })

-- ---- reading: each place has an object of its own
first_draft : get a start (object 0) ≡ Ok (object 1)
first_draft = refl

second_draft : get b start (object 0) ≡ Ok (object 2)
second_draft = refl

absent : get x start (object 0) ≡ Ok Undefined
absent = refl

-- ---- alias: `state.b = state.a; state.a.x = 1;`
abbrev moved : Heap
moved = left start (put_at b (object 1) start (object 0))

abbrev changed : Heap
changed = left moved (put_at x (Prim (int 1)) moved (object 1))

-- the root is marked, and both keys name one object
root_after : shown changed (object 0) ≡ content ((a, object 1) ∷ (b, object 1) ∷ []) 3 true
root_after = refl

-- the write is seen at both
seen_at_b : get b changed (object 0) ≡ Ok (object 1)
seen_at_b = refl

a_after : shown changed (object 1) ≡ content ((x, Prim (int 1)) ∷ []) 1 true
a_after = refl

-- the object that stood at b is as it was
b_after : shown changed (object 2) ≡ content ((x, Prim (int 0)) ∷ []) 2 false
b_after = refl

-- ---- an assignment of the value that stands there sets no mark
assigned : shown (left start (put_at a (object 1) start (object 0))) (object 0) ≡ content ((a, object 1) ∷ (b, object 2) ∷ []) 3 false
assigned = refl

-- a write that another undoes keeps its mark
undone : marked (left changed (put_at x (Prim (int 0)) changed (object 1))) (object 1) ≡ true
undone = refl

-- ---- original: a frozen node is read as frozen nodes and is never written; put where its own draft stands it is a write
base : original start (object 1) ≡ Ok (Frozen 1)
base = refl

no_base : original start (Prim (int 1)) ≡ Err fault.NotADraft
no_base = refl

frozen_read : get a start (Frozen 3) ≡ Ok (Frozen 1)
frozen_read = refl

frozen_write : put_at x (Prim (int 1)) start (Frozen 1) ≡ Err fault.Frozen
frozen_write = refl

base_put : shown (left start (put_at a (Frozen 1) start (object 0))) (object 0) ≡ content ((a, Frozen 1) ∷ (b, object 2) ∷ []) 3 true
base_put = refl

-- ---- refusals, the first cause first
foreign : get a start (Obj (record { scope = 8; slot = 0 })) ≡ Err fault.Revoked
foreign = refl

foreign_value : put_at Null (Obj (record { scope = 8; slot = 0 })) start (object 0) ≡ Err fault.Revoked
foreign_value = refl

no_text_key : put_at Null Undefined start (Frozen 1) ≡ Err fault.TypeMismatch
no_text_key = refl

frozen_first : put_at (Text (codes "__proto__")) Undefined start (Frozen 1) ≡ Err fault.Frozen
frozen_first = refl

reserved : put_at (Text (codes "__proto__")) Undefined start (object 0) ≡ Err fault.ReservedKey
reserved = refl

reserved_read : get (Text (codes "constructor")) start (object 0) ≡ Err fault.ReservedKey
reserved_read = refl

undefined_write : put_at a Undefined start (object 0) ≡ Err fault.UndefinedWrite
undefined_write = refl

-- ---- keys and removal
key_list : shown (left start (keys start (object 0))) (object 3) ≡ Some (fresh kind.List ((Null, Prim a) ∷ (Null, Prim b) ∷ []))
key_list = refl

removed : shown (left start (remove_at a start (object 0))) (object 0) ≡ content ((b, object 2) ∷ []) 3 true
removed = refl

-- removing what is absent sets no mark
removed_nothing : marked (left start (remove_at x start (object 0))) (object 0) ≡ false
removed_nothing = refl

-- ---- a list [n, n] that holds one node twice gives two drafts
abbrev twice : Heap
twice = opened 7 (inner 1 ∷ node 2 kind.List (branch Null (inner 1) (branch Null (inner 1) none)) ∷ []) 2

one : get (int 0) twice (object 0) ≡ Ok (object 1)
one = refl

other : get (int 1) twice (object 0) ≡ Ok (object 2)
other = refl

past_end : get (int 2) twice (object 0) ≡ Ok Undefined
past_end = refl

negative : get (Int (negsuc 0)) twice (object 0) ≡ Ok Undefined
negative = refl

long : len twice (object 0) ≡ Ok 2
long = refl

appended : len (left twice (put_at (int 2) (Prim Null) twice (object 0))) (object 0) ≡ Ok 3
appended = refl

hole : put_at (int 3) Undefined twice (object 0) ≡ Err fault.Hole
hole = refl

cut : shown (splice_at 0 1 (Prim Null ∷ Prim Null ∷ []) twice (object 0)) (object 0) ≡ Some (record { kind = kind.List; table = (Null, Prim Null) ∷ (Null, Prim Null) ∷ (Null, object 2) ∷ []; source = Some 2; written = true })
cut = refl

second_place : place_of twice (object 2) ≡ Some (int 1 ∷ [])
second_place = refl

-- ---- a Set's members are read as themselves, and a Map's values under their keys
abbrev members : Heap
members = opened 7 (node 1 kind.Map (branch (int 1) (prim a) none) ∷ node 2 kind.Set (branch Null (prim Null) none) ∷ node 3 kind.Obj (branch a (node 1 kind.Map (branch (int 1) (prim a) none)) (branch b (node 2 kind.Set (branch Null (prim Null) none)) none)) ∷ []) 3

map_content : shown members (object 1) ≡ Some (record { kind = kind.Map; table = (int 1, Prim a) ∷ []; source = Some 1; written = false })
map_content = refl

set_content : shown members (object 2) ≡ Some (record { kind = kind.Set; table = (Null, Prim Null) ∷ []; source = Some 2; written = false })
set_content = refl

map_place : place_of members (object 1) ≡ Some (a ∷ [])
map_place = refl

-- ---- the literals of {"x":{}} are made in post-order: the inner object 3, then the outer one 4
abbrev value : plain.Plain
value = plain.node kind.Obj (plain.entry x (plain.node kind.Obj plain.none) plain.none)

made : plain_value start value ≡ object 4
made = refl

outer : shown (with_plain value start) (object 4) ≡ Some (fresh kind.Obj ((x, object 3) ∷ []))
outer = refl

inside : shown (with_plain value start) (object 3) ≡ Some (fresh kind.Obj [])
inside = refl

no_draft : place_of (with_plain value start) (object 3) ≡ None
no_draft = refl

-- ---- more refusals
long_key : Key
long_key = Text (replicate 1025 97)

too_long : put_at long_key (Prim Null) start (object 0) ≡ Err fault.KeyTooLong
unfolding long_key
too_long = refl

long_is_absent : get long_key start (object 0) ≡ Ok Undefined
unfolding long_key
long_is_absent = refl

long_removed : marked (left start (remove_at long_key start (object 0))) (object 0) ≡ false
unfolding long_key
long_removed = refl

negative_put : put_at (Int (negsuc 0)) (Prim Null) twice (object 0) ≡ Err fault.Hole
negative_put = refl

frozen_removal : remove_at (Text (codes "__proto__")) start (Frozen 3) ≡ Err fault.Frozen
frozen_removal = refl

frozen_reserved : get (Text (codes "__proto__")) start (Frozen 3) ≡ Err fault.ReservedKey
frozen_reserved = refl

frozen_keys : shown (left start (keys start (Frozen 1))) (object 3) ≡ Some (fresh kind.List ((Null, Prim x) ∷ []))
frozen_keys = refl

frozen_len : len twice (Frozen 2) ≡ Ok 2
frozen_len = refl

put_on_primitive : put_at a Undefined start (Prim Null) ≡ Err fault.TypeMismatch
put_on_primitive = refl

put_on_map : put_at a (Prim Null) members (object 1) ≡ Err fault.TypeMismatch
put_on_map = refl

text_in_list : put_at a (Prim Null) twice (object 0) ≡ Err fault.TypeMismatch
text_in_list = refl

foreign_original : original start (Obj (record { scope = 8; slot = 0 })) ≡ Err fault.Revoked
foreign_original = refl

literal_original : original (new_of kind.Obj start) (object 3) ≡ Err fault.NotADraft
literal_original = refl

-- ---- marks: a literal's doesn't count, that of a draft that stands nowhere does
literal_marked : any_written (left (new_of kind.Obj start) (put_at x (Prim Null) (new_of kind.Obj start) (object 3))) ≡ false
literal_marked = refl

draft_marked : any_written (left start (remove_at a (left start (put_at x (Prim Null) start (object 1))) (object 0))) ≡ true
draft_marked = refl

frozen_source : source start (Frozen 1) ≡ Some 1
frozen_source = refl

frozen_mark : marked start (Frozen 1) ≡ false
frozen_mark = refl

-- ---- entries of Maps and Sets, and a list that a splice leaves as it was
set_in_map : shown (set_key Null (Some (object 0)) members (object 1)) (object 1) ≡ Some (record { kind = kind.Map; table = (Null, object 0) ∷ (int 1, Prim a) ∷ []; source = Some 1; written = true })
set_in_map = refl

gone_from_set : shown (set_key Null None members (object 2)) (object 2) ≡ Some (record { kind = kind.Set; table = []; source = Some 2; written = true })
gone_from_set = refl

absent_in_set : marked (set_key a None members (object 2)) (object 2) ≡ false
absent_in_set = refl

reserved_in_map : shown (set_key (Text (codes "__proto__")) (Some (Prim Null)) members (object 1)) (object 1) ≡ Some (record { kind = kind.Map; table = (int 1, Prim a) ∷ (Text (codes "__proto__"), Prim Null) ∷ []; source = Some 1; written = true })
reserved_in_map = refl

emptied_twice : marked (empty (new_of kind.Set members) (object 3)) (object 3) ≡ false
emptied_twice = refl

spliced_same : marked (splice_at 0 1 (object 1 ∷ []) twice (object 0)) (object 0) ≡ false
spliced_same = refl
