-- What the calls on a run's objects answer and leave. Each call reads one container, or rewrites the table of one object, or
-- makes new objects; where several refusals hold, the first in the order of `DraftFault` is answered.
use Rattle.std.specs.Prelude.{ℕ, zero, suc, ℤ, pos, List, [], ◌∷◌, ◌++◌, length, map, slice_get, slice_set, Option, Some, None, option_map, Bool, true, false, not, ◌||◌, ◌==◌, nat_lt, if◌then◌else◌, Result, Ok, Err}
use Rattle.std.specs.Ordering.{is_eq, eq_by_cmp}
use Rattle.std.specs.FinMap.Entries.{find, put, where_key}
use Rattle.std.specs.List.{splice}
use Rattle.value_model.specs.declared.key.Key.{Key}
use Rattle.value_model.specs.declared.key.Key.TheVariants as key
use Rattle.value_model.specs.declared.kind.Kind.{Kind}
use Rattle.value_model.specs.declared.kind.Kind.TheVariants as kind
use Rattle.value_model.specs.Limits.{is_long_text, is_reserved_text, is_reserved_key}
use Rattle.value_model.specs.Order.{key_cmp}
use Rattle.value_model.specs.Plain.{Plain}
use Rattle.numbered.specs.Loading.{numbered, post_order}
use Rattle.numbered.specs.Store.{tree_at}
use Rattle.numbered.specs.Tree.{Tree, Branches, prim, node, none, branch, place}
use Rattle.value_model.specs.Kinds.{is_object, is_list}
use Rattle.run_heap.specs.declared.value.Rv.{Rv}
use Rattle.run_heap.specs.declared.value.Rv.TheVariants.{Undefined, Prim, Obj, Frozen}
use Rattle.run_heap.specs.declared.content.Content.{Content}
use Rattle.run_heap.specs.declared.fault.DraftFault.{DraftFault}
use Rattle.run_heap.specs.declared.fault.DraftFault.TheVariants as fault
use Rattle.run_heap.specs.Heap.{Heap, drafts, shown, is_foreign, is_draft, write_table, with_objects, with_object, next_object, fresh}

abbrev pub Rows : Type 0
Rows = List (Key × Rv)

-- ---- refusals
-- the first cause that holds, with its refusal
abbrev pub unless : {X : Type 0} → List (Bool × DraftFault) → Result X DraftFault → Result X DraftFault
unless [] r = r
unless (c ∷ cs) r = if c.0 then Err c.1 else unless cs r

abbrev pub any_foreign : Heap → List Rv → Bool
any_foreign h [] = false
any_foreign h (v ∷ vs) = is_foreign h v || any_foreign h vs

abbrev pub is_undefined : Rv → Bool
is_undefined Undefined = true
is_undefined _ = false

abbrev pub is_frozen : Rv → Bool
is_frozen (Frozen id) = true
is_frozen _ = false

-- ---- a call that reads a container
-- what it answers to the container's content; a value that shows none is a `TypeMismatch`
abbrev pub then_read : {X : Type 0} → (Content → Result X DraftFault) → Option Content → Result X DraftFault
then_read f None = Err fault.TypeMismatch
then_read f (Some c) = f c

-- the call on `of`, where `others` are the other values among the arguments
abbrev pub read : {X : Type 0} → (Content → Result X DraftFault) → Heap → Rv → List Rv → Result X DraftFault
read f h of others = if any_foreign h (of ∷ others) then Err fault.Revoked else then_read f (shown h of)

-- ---- a call that writes an object
-- the kinds that it takes, and, of a kind and a table, the table that it leaves and its answer, or its refusal
pub record Edit (X : Type 0) : Type 0 where
  pub takes : Kind → Bool
  pub leaves : Kind → Rows → Result (Rows × X) DraftFault

abbrev pub then_write : {X : Type 0} → Heap → Rv → Content → Result (Rows × X) DraftFault → Result (Heap × X) DraftFault
then_write h of c (Ok left) = Ok (write_table left.0 c of h, left.1)
then_write h of c (Err e) = Err e

abbrev pub edit_shown : {X : Type 0} → Edit X → Heap → Rv → Option Content → Result (Heap × X) DraftFault
edit_shown e h of None = Err fault.TypeMismatch
edit_shown e h of (Some c) =
    unless ((not (e.takes c.kind), fault.TypeMismatch) ∷ (is_frozen of, fault.Frozen) ∷ [])
    (then_write h of c (e.leaves c.kind c.table))

-- the heap and the answer after the call on `of`, where `others` are the other values among the arguments
abbrev pub edited : {X : Type 0} → Edit X → Heap → Rv → List Rv → Result (Heap × X) DraftFault
edited e h of others = if any_foreign h (of ∷ others) then Err fault.Revoked else edit_shown e h of (shown h of)

-- ---- `get`
abbrev pub or_undefined : Option Rv → Rv
or_undefined None = Undefined
or_undefined (Some v) = v

-- the value at an index, if there is one
abbrev pub value_at : ℕ → Rows → Option Rv
value_at i t = option_map (λ e. e.1) (slice_get t i)

abbrev pub element : ℤ → Rows → Rv
element (pos i) t = or_undefined (value_at i t)
element _ t = Undefined

-- an object's value by a text, a list's element by an integer
abbrev pub entry : Key → Kind → Rows → Result Rv DraftFault
entry (key.Text s) kind.Obj t = unless ((is_reserved_text s, fault.ReservedKey) ∷ []) (Ok (or_undefined (find key_cmp (key.Text s) t)))
entry (key.Int i) kind.List t = Ok (element i t)
entry _ _ t = Err fault.TypeMismatch

abbrev pub get : Key → Heap → Rv → Result Rv DraftFault
get k h of = read (λ c. entry k c.kind c.table) h of []

-- ---- `put`
-- the key finds an entry of such a container
abbrev pub is_place : Key → Kind → Bool
is_place (key.Text s) kind.Obj = true
is_place (key.Int i) kind.List = true
is_place _ _ = false

-- in a list each value stands under null
abbrev pub item : Rv → Key × Rv
item v = (key.Null, v)

-- a list with an element set, or with one more
abbrev pub set_element : ℕ → Rv → Rows → Rows
set_element i v t = if i == length t then t ++ item v ∷ [] else slice_set t i (item v)

-- an index that is written is at most the length
abbrev pub is_hole : ℤ → Rows → Bool
is_hole (pos i) t = nat_lt (length t) i
is_hole _ t = true

abbrev pub put_element : ℤ → Rv → Rows → Rows
put_element (pos i) v t = set_element i v t
put_element _ v t = t

abbrev pub no_answer : Rows → Result (Rows × Unit {0}) DraftFault
no_answer t = Ok (t, tt)

abbrev pub put_entry : Key → Rv → Kind → Rows → Result (Rows × Unit {0}) DraftFault
put_entry (key.Text s) v kind.Obj t =
    unless ((is_reserved_text s, fault.ReservedKey) ∷ (is_long_text s, fault.KeyTooLong) ∷ (is_undefined v, fault.UndefinedWrite) ∷ [])
    (no_answer (put key_cmp (key.Text s) v t))
put_entry (key.Int i) v kind.List t =
    unless ((is_hole i t, fault.Hole) ∷ (is_undefined v, fault.UndefinedWrite) ∷ [])
    (no_answer (put_element i v t))
put_entry _ v _ t = Err fault.TypeMismatch

abbrev pub putting : Key → Rv → Edit (Unit {0})
putting k v = record { takes = is_place k; leaves = put_entry k v }

abbrev pub put_at : Key → Rv → Heap → Rv → Result (Heap × Unit {0}) DraftFault
put_at k v h of = edited (putting k v) h of (v ∷ [])

-- ---- `remove`
-- the table without the entry of a key, as for plain values
abbrev pub without : Key → Rows → Rows
without k t = where_key key_cmp (λ j. not (eq_by_cmp key_cmp k j)) t

-- an object's entry by a text
abbrev pub is_text_place : Key → Kind → Bool
is_text_place (key.Text s) kind = is_object kind
is_text_place _ _ = false

abbrev pub removing : Key → Edit (Unit {0})
removing k = record { takes = is_text_place k; leaves = λ _ t. unless ((is_reserved_key k, fault.ReservedKey) ∷ []) (no_answer (without k t)) }

abbrev pub remove_at : Key → Heap → Rv → Result (Heap × Unit {0}) DraftFault
remove_at k h of = edited (removing k) h of []

-- ---- `keys` and `len`
-- a list of primitives
abbrev pub listed : List Key → Rows
listed ks = map (λ k. item (Prim k)) ks

abbrev pub keys_of : Rows → List Key
keys_of t = map (λ e. e.0) t

abbrev pub keys_shown : Content → Result Rows DraftFault
keys_shown c = unless ((not (is_object c.kind), fault.TypeMismatch) ∷ []) (Ok (listed (keys_of c.table)))

-- a fresh list
abbrev pub then_list : Heap → Result Rows DraftFault → Result (Heap × Rv) DraftFault
then_list h (Ok t) = Ok (with_object (fresh kind.List t) h, next_object h)
then_list h (Err e) = Err e

-- a fresh list of an object's keys, ascending

abbrev pub keys : Heap → Rv → Result (Heap × Rv) DraftFault
keys h of = then_list h (read keys_shown h of [])

abbrev pub list_length : Content → Result ℕ DraftFault
list_length c = unless ((not (is_list c.kind), fault.TypeMismatch) ∷ []) (Ok (length c.table))

abbrev pub len : Heap → Rv → Result ℕ DraftFault
len h of = read list_length h of []

-- ---- `original`
-- the frozen container that a draft was opened on
abbrev pub frozen_at : Option Tree → Rv
frozen_at (Some (node id kind es)) = Frozen id
frozen_at _ = Undefined

abbrev pub slot_of : Rv → ℕ
slot_of (Obj r) = r.slot
slot_of _ = 0

abbrev pub original : Heap → Rv → Result Rv DraftFault
original h v =
    unless ((is_foreign h v, fault.Revoked) ∷ (not (is_draft h v), fault.NotADraft) ∷ [])
    (Ok (frozen_at (place (slot_of v) (tree_at h.states h.root))))

-- the mark of an object
abbrev pub is_marked : Option Content → Bool
is_marked None = false
is_marked (Some c) = c.written

-- some number below passes the test
abbrev pub any_below : ℕ → (ℕ → Bool) → Bool
any_below zero p = false
any_below (suc n) p = p n || any_below n p

-- some draft's mark is set; literals don't count
abbrev pub any_written : Heap → Bool
any_written h = any_below (drafts h) (λ n. is_marked (h.object n))

abbrev pub root_draft : Heap → Rv
root_draft h = Obj (record { scope = h.scope; slot = 0 })

abbrev pub owns : Heap → Rv → Bool
owns h v = not (is_foreign h v)

-- ---- calls that have conditions where the others have refusals
abbrev pub kind_of : Heap → Rv → Option Kind
kind_of h v = option_map (λ (c : Content). c.kind) (shown h v)

abbrev pub rows_of : Option Content → Rows
rows_of None = []
rows_of (Some c) = c.table

-- the table of a container
abbrev pub table_of : Heap → Rv → Rows
table_of h v = rows_of (shown h v)

abbrev pub count : Heap → Rv → ℕ
count h of = length (table_of h of)

abbrev pub key_at : Heap → Rv → ℕ → Option Key
key_at h of i = slice_get (keys_of (table_of h of)) i

abbrev pub entry_at : Heap → Rv → ℕ → Option Rv
entry_at h of i = value_at i (table_of h of)

-- the index of the entry with a key
abbrev pub position : Key → Rows → Option ℕ
position k [] = None
position k (e ∷ es) = if is_eq (key_cmp k e.0) then Some 0 else option_map suc (position k es)

abbrev pub find_key : Heap → Rv → Key → Option ℕ
find_key h of k = position k (table_of h of)

abbrev pub marked : Heap → Rv → Bool
marked h v = is_marked (shown h v)

abbrev pub source_in : Option Content → Option ℕ
source_in None = None
source_in (Some c) = c.source

abbrev pub source : Heap → Rv → Option ℕ
source h v = source_in (shown h v)

-- the heap after the table of an object was rewritten by f
abbrev pub rewrite_shown : (Rows → Rows) → Heap → Rv → Option Content → Heap
rewrite_shown f h of None = h
rewrite_shown f h of (Some c) = write_table (f c.table) c of h

abbrev pub rewrite : (Rows → Rows) → Heap → Rv → Heap
rewrite f h of = rewrite_shown f h of (shown h of)

-- the items from `from` up to `to` replaced by these
abbrev pub spliced : ℕ → ℕ → List Rv → Rows → Rows
spliced from to items t = splice t from to (map item items)

-- the entry of a key set, or absent
abbrev pub with_key : Key → Option Rv → Rows → Rows
with_key k (Some v) t = put key_cmp k v t
with_key k None t = without k t

abbrev pub emptied : Rows → Rows
emptied t = []

abbrev pub set_key : Key → Option Rv → Heap → Rv → Heap
set_key k v h of = rewrite (with_key k v) h of

abbrev pub splice_at : ℕ → ℕ → List Rv → Heap → Rv → Heap
splice_at from to items h of = rewrite (spliced from to items) h of

abbrev pub empty : Heap → Rv → Heap
empty h of = rewrite emptied h of

-- a fresh empty object, list, Map or Set
abbrev pub new_of : Kind → Heap → Heap
new_of kind h = with_object (fresh kind []) h

-- ---- fresh literals of a plain value: its containers get the next names in post-order
abbrev pub named_value : ℕ → Tree → Rv
named_value scope (prim k) = Prim k
named_value scope (node name kind es) = Obj (record { scope = scope; slot = name })

abbrev pub named_table : ℕ → Branches → Rows
named_table scope none = []
named_table scope (branch k v es) = (k, named_value scope v) ∷ named_table scope es

abbrev pub literal : ℕ → Tree → Content
literal scope (prim k) = fresh kind.Obj []
literal scope (node name kind es) = fresh kind (named_table scope es)

abbrev pub literals : Heap → Plain → List Content
literals h v = map (literal h.scope) (post_order (numbered h.next v))

abbrev pub with_plain : Plain → Heap → Heap
with_plain v h = with_objects (literals h v) h

abbrev pub plain_value : Heap → Plain → Rv
plain_value h v = named_value h.scope (numbered h.next v)
