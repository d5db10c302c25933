-- What the calls on a run's Maps and Sets answer and leave. A Map's table has its entries in the order of their keys; in a Set's
-- each member stands under itself. Where several refusals hold, the first in the order of `DraftFault` is answered.
use Rattle.std.specs.Prelude.{ℕ, [], ◌∷◌, length, is_some, Bool, true, false, not, ◌||◌, Result, Ok, Err}
use Rattle.std.specs.FinMap.Entries.{find, put}
use Rattle.value_model.specs.declared.key.Key.{Key}
use Rattle.value_model.specs.declared.kind.Kind.{Kind}
use Rattle.value_model.specs.declared.kind.Kind.TheVariants as kind
use Rattle.value_model.specs.Limits.{is_long_key}
use Rattle.value_model.specs.Order.{key_cmp}
use Rattle.value_model.specs.Kinds.{is_map, is_set}
use Rattle.run_heap.specs.declared.value.Rv.{Rv}
use Rattle.run_heap.specs.declared.value.Rv.TheVariants.{Prim}
use Rattle.run_heap.specs.declared.content.Content.{Content}
use Rattle.run_heap.specs.declared.fault.DraftFault.{DraftFault}
use Rattle.run_heap.specs.declared.fault.DraftFault.TheVariants as fault
use Rattle.run_heap.specs.Heap.{Heap}
use Rattle.run_heap.specs.Operations.{Rows, unless, is_undefined, read, Edit, edited, or_undefined, no_answer, without, emptied, listed, keys_of, then_list, new_of}

-- ---- the kinds
abbrev pub is_map_or_set : Kind → Bool
is_map_or_set of = is_map of || is_set of

-- ---- a key of a Map, a member of a Set
-- what f says at the primitive that a value is; another value is no key, the last refusal of a call in the order of `DraftFault`
abbrev pub by_key : {X : Type 0} → (Key → Result X DraftFault) → Rv → Result X DraftFault
by_key f (Prim k) = f k
by_key f _ = Err fault.BadKey

-- a text of more than 1,024 bytes, which no key that is written may be: so it stands in no table, and where it is read or removed
-- it is just absent
abbrev pub is_long : Rv → Bool
is_long (Prim k) = is_long_key k
is_long _ = false

-- a table has an entry of the key
abbrev pub has : Key → Rows → Bool
has k t = is_some (find key_cmp k t)

-- ---- calls that read
-- what is answered of a table, where the container is of such a kind
abbrev pub of_kind : {X : Type 0} → (Kind → Bool) → (Rows → Result X DraftFault) → Content → Result X DraftFault
of_kind takes f c = unless ((not (takes c.kind), fault.TypeMismatch) ∷ []) (f c.table)

-- the value at a key, undefined where the key is absent
abbrev pub value_of : Rv → Rows → Result Rv DraftFault
value_of k t = by_key (λ j. Ok (or_undefined (find key_cmp j t))) k

abbrev pub is_there : Rv → Rows → Result Bool DraftFault
is_there k t = by_key (λ j. Ok (has j t)) k

abbrev pub map_get : Rv → Heap → Rv → Result Rv DraftFault
map_get k h of = read (of_kind is_map (value_of k)) h of (k ∷ [])

abbrev pub map_has : Rv → Heap → Rv → Result Bool DraftFault
map_has k h of = read (of_kind is_map (is_there k)) h of (k ∷ [])

abbrev pub set_has : Rv → Heap → Rv → Result Bool DraftFault
set_has k h of = read (of_kind is_set (is_there k)) h of (k ∷ [])

abbrev pub size : Heap → Rv → Result ℕ DraftFault
size h of = read (of_kind is_map_or_set (λ t. Ok (length t))) h of []

-- a fresh list of a Map's keys or a Set's members, ascending
abbrev pub member_keys : Heap → Rv → Result (Heap × Rv) DraftFault
member_keys h of = then_list h (read (of_kind is_map_or_set (λ t. Ok (listed (keys_of t)))) h of [])

-- ---- calls that write
abbrev pub setting : Rv → Rv → Edit (Unit {0})
setting k v = record {
  takes = is_map;
  leaves = λ _ t. unless ((is_long k, fault.KeyTooLong) ∷ (is_undefined v, fault.UndefinedWrite) ∷ []) (by_key (λ j. no_answer (put key_cmp j v t)) k);
}

abbrev pub adding : Rv → Edit (Unit {0})
adding k = record {
  takes = is_set;
  leaves = λ _ t. unless ((is_long k, fault.KeyTooLong) ∷ []) (by_key (λ j. no_answer (put key_cmp j (Prim j) t)) k);
}

-- the answer says whether the key was there
abbrev pub deleting : (Kind → Bool) → Rv → Edit Bool
deleting takes k = record { takes = takes; leaves = λ _ t. by_key (λ j. Ok (without j t, has j t)) k }

abbrev pub clearing : (Kind → Bool) → Edit (Unit {0})
clearing takes = record { takes = takes; leaves = λ _ t. no_answer (emptied t) }

abbrev pub map_set : Rv → Rv → Heap → Rv → Result (Heap × Unit {0}) DraftFault
map_set k v h of = edited (setting k v) h of (k ∷ v ∷ [])

abbrev pub map_delete : Rv → Heap → Rv → Result (Heap × Bool) DraftFault
map_delete k h of = edited (deleting is_map k) h of (k ∷ [])

abbrev pub map_clear : Heap → Rv → Result (Heap × Unit {0}) DraftFault
map_clear h of = edited (clearing is_map) h of []

abbrev pub set_add : Rv → Heap → Rv → Result (Heap × Unit {0}) DraftFault
set_add k h of = edited (adding k) h of (k ∷ [])

abbrev pub set_delete : Rv → Heap → Rv → Result (Heap × Bool) DraftFault
set_delete k h of = edited (deleting is_set k) h of (k ∷ [])

abbrev pub set_clear : Heap → Rv → Result (Heap × Unit {0}) DraftFault
set_clear h of = edited (clearing is_set) h of []

-- ---- a fresh empty Map or Set, which is the next object
abbrev pub new_map : Heap → Heap
new_map h = new_of kind.Map h

abbrev pub new_set : Heap → Heap
new_set h = new_of kind.Set h
