-- Worked examples. Scope 7 is begun at the state {"m":{"$map":[["1","text"],[1,"int"]]},"s":{"$set":[null]}}, whose Map is 1, whose
-- Set is 2, and the root 3; its drafts are 0 (the root), 1 (the Map) and 2 (the Set).
use Rattle.std.proofs.Math.ListN.{replicate}
use Rattle.std.specs.Prelude.{◌≡◌, ℕ, pos, negsuc, List, [], ◌∷◌, codes, refl, Option, Some, None, Bool, true, false, Result, Ok, Err}
use Rattle.value_model.specs.declared.key.Key.{Key}
use Rattle.value_model.specs.declared.key.Key.TheVariants as key
use Rattle.value_model.specs.declared.key.Key.TheVariants.{Null, Int, Text}
use Rattle.value_model.specs.declared.kind.Kind.{Kind}
use Rattle.value_model.specs.declared.kind.Kind.TheVariants as kind
use Rattle.numbered.specs.Tree.{Tree, prim, node, none, branch}
use Rattle.run_heap.specs.declared.value.Rv.{Rv}
use Rattle.run_heap.specs.declared.value.Rv.TheVariants.{Undefined, Prim, Obj, Frozen}
use Rattle.run_heap.specs.declared.content.Content.{Content}
use Rattle.run_heap.specs.declared.fault.DraftFault.{DraftFault}
use Rattle.run_heap.specs.declared.fault.DraftFault.TheVariants as fault
use Rattle.run_heap.specs.Heap.{Heap, opened, shown, fresh}
use Rattle.run_heap.specs.Operations.{Rows, marked}
use Rattle.draft_map_set_spec.specs.MapSet.{map_get, map_has, map_set, map_delete, map_clear, set_add, set_has, set_delete, set_clear, size, member_keys, new_map, new_set}

abbrev one : Key
one = Int (pos 1)

abbrev map_node : Tree
map_node = node 1 kind.Map (branch one (prim (Text (codes "int"))) (branch (Text (codes "1")) (prim (Text (codes "text"))) none))

abbrev set_node : Tree
set_node = node 2 kind.Set (branch Null (prim Null) none)

abbrev top : Tree
top = node 3 kind.Obj (branch (Text (codes "m")) map_node (branch (Text (codes "s")) set_node none))

abbrev start : Heap
start = opened 7 (map_node ∷ set_node ∷ top ∷ []) 3

abbrev object : ℕ → Rv
object n = Obj (record { scope = 7; slot = n })

abbrev foreign : Rv
foreign = Obj (record { scope = 8; slot = 0 })

abbrev text_value : List ℕ → Rv
text_value s = Prim (Text s)

long_key : Rv
long_key = Prim (Text (replicate 1025 97))

-- the heap that a call leaves
abbrev left : {X : Type 0} → Heap → Result (Heap × X) DraftFault → Heap
left h (Ok p) = p.0
left h (Err e) = h

-- what it answers
abbrev answer : {X : Type 0} → Result (Heap × X) DraftFault → Result X DraftFault
answer (Ok p) = Ok p.1
answer (Err e) = Err e

-- the longest text that may be a key
longest : Rv
longest = Prim (Text (replicate 1024 97))

abbrev content : Kind → ℕ → Rows → Bool → Option Content
content of id t written = Some (record { kind = of; table = t; source = Some id; written = written })

abbrev int_row : Key × Rv
int_row = (one, Prim (Text (codes "int")))

abbrev text_row : Key × Rv
text_row = (Text (codes "1"), Prim (Text (codes "text")))

-- ---- `map_get`: the integer 1 and the text "1" are two keys
by_integer : map_get (Prim one) start (object 1) ≡ Ok (text_value (codes "int"))
by_integer = refl

by_text : map_get (text_value (codes "1")) start (object 1) ≡ Ok (text_value (codes "text"))
by_text = refl

absent : map_get (Prim Null) start (object 1) ≡ Ok Undefined
absent = refl

frozen_get : map_get (Prim one) start (Frozen 1) ≡ Ok (text_value (codes "int"))
frozen_get = refl

-- a key past the limit is absent
long_get : map_get long_key start (object 1) ≡ Ok Undefined
unfolding long_key
long_get = refl

get_on_set : map_get (object 0) start (object 2) ≡ Err fault.TypeMismatch
get_on_set = refl

get_on_primitive : map_get (Prim one) start (Prim Null) ≡ Err fault.TypeMismatch
get_on_primitive = refl

container_key : map_get (object 0) start (object 1) ≡ Err fault.BadKey
container_key = refl

undefined_key : map_get Undefined start (object 1) ≡ Err fault.BadKey
undefined_key = refl

foreign_map : map_get (Prim one) start foreign ≡ Err fault.Revoked
foreign_map = refl

foreign_key : map_get foreign start (object 2) ≡ Err fault.Revoked
foreign_key = refl

-- ---- `map_has`
has_integer : map_has (Prim one) start (object 1) ≡ Ok true
has_integer = refl

has_not : map_has (Prim Null) start (object 1) ≡ Ok false
has_not = refl

has_on_object : map_has (Prim one) start (object 0) ≡ Err fault.TypeMismatch
has_on_object = refl

has_container : map_has (object 2) start (object 1) ≡ Err fault.BadKey
has_container = refl

-- ---- `map_set`
replaced : shown (left start (map_set (Prim one) (text_value (codes "one")) start (object 1))) (object 1) ≡ content kind.Map 1 ((one, text_value (codes "one")) ∷ text_row ∷ []) true
replaced = refl

added_first : shown (left start (map_set (Prim Null) (object 0) start (object 1))) (object 1) ≡ content kind.Map 1 ((Null, object 0) ∷ int_row ∷ text_row ∷ []) true
added_first = refl

-- the value that is there already sets no mark
set_same : marked (left start (map_set (Prim one) (text_value (codes "int")) start (object 1))) (object 1) ≡ false
set_same = refl

-- no name is reserved in a Map
reserved_name : shown (left start (map_set (text_value (codes "__proto__")) (Prim Null) start (object 1))) (object 1) ≡ content kind.Map 1 (int_row ∷ text_row ∷ (Text (codes "__proto__"), Prim Null) ∷ []) true
reserved_name = refl

set_on_set : map_set (object 0) Undefined start (Frozen 2) ≡ Err fault.TypeMismatch
set_on_set = refl

set_on_frozen : map_set (object 0) Undefined start (Frozen 1) ≡ Err fault.Frozen
set_on_frozen = refl

set_long : map_set long_key Undefined start (object 1) ≡ Err fault.KeyTooLong
unfolding long_key
set_long = refl

set_undefined : map_set (object 0) Undefined start (object 1) ≡ Err fault.UndefinedWrite
set_undefined = refl

set_container : map_set (object 0) (Prim Null) start (object 1) ≡ Err fault.BadKey
set_container = refl

set_foreign_value : map_set (Prim one) foreign start (object 2) ≡ Err fault.Revoked
set_foreign_value = refl

-- ---- `map_delete`
deleted : shown (left start (map_delete (Prim one) start (object 1))) (object 1) ≡ content kind.Map 1 (text_row ∷ []) true
deleted = refl

deleted_answer : answer (map_delete (Prim one) start (object 1)) ≡ Ok true
deleted_answer = refl

-- an absent key sets no mark
deleted_nothing : shown (left start (map_delete (Prim Null) start (object 1))) (object 1) ≡ content kind.Map 1 (int_row ∷ text_row ∷ []) false
deleted_nothing = refl

deleted_nothing_answer : answer (map_delete (Prim Null) start (object 1)) ≡ Ok false
deleted_nothing_answer = refl

delete_long : answer (map_delete long_key start (object 1)) ≡ Ok false
unfolding long_key
delete_long = refl

delete_on_frozen : map_delete (object 0) start (Frozen 1) ≡ Err fault.Frozen
delete_on_frozen = refl

delete_container : map_delete (object 0) start (object 1) ≡ Err fault.BadKey
delete_container = refl

delete_on_set : map_delete (Prim Null) start (object 2) ≡ Err fault.TypeMismatch
delete_on_set = refl

-- ---- `map_clear`
cleared : shown (left start (map_clear start (object 1))) (object 1) ≡ content kind.Map 1 [] true
cleared = refl

-- a Map that has no entry gets no mark
cleared_empty : shown (left (new_map start) (map_clear (new_map start) (object 3))) (object 3) ≡ Some (fresh kind.Map [])
cleared_empty = refl

clear_on_frozen : map_clear start (Frozen 1) ≡ Err fault.Frozen
clear_on_frozen = refl

clear_on_set : map_clear start (object 2) ≡ Err fault.TypeMismatch
clear_on_set = refl

foreign_clear : map_clear start foreign ≡ Err fault.Revoked
foreign_clear = refl

-- ---- `set_add`
added : shown (left start (set_add (text_value (codes "x")) start (object 2))) (object 2) ≡ content kind.Set 2 ((Null, Prim Null) ∷ (Text (codes "x"), text_value (codes "x")) ∷ []) true
added = refl

-- a member that is there already sets no mark
added_again : shown (left start (set_add (Prim Null) start (object 2))) (object 2) ≡ content kind.Set 2 ((Null, Prim Null) ∷ []) false
added_again = refl

add_on_map : set_add (object 0) start (Frozen 1) ≡ Err fault.TypeMismatch
add_on_map = refl

add_on_frozen : set_add (object 0) start (Frozen 2) ≡ Err fault.Frozen
add_on_frozen = refl

add_long : set_add long_key start (object 2) ≡ Err fault.KeyTooLong
unfolding long_key
add_long = refl

add_container : set_add (object 0) start (object 2) ≡ Err fault.BadKey
add_container = refl

add_undefined : set_add Undefined start (object 2) ≡ Err fault.BadKey
add_undefined = refl

foreign_member : set_add foreign start (object 1) ≡ Err fault.Revoked
foreign_member = refl

-- ---- `set_has`
has_member : set_has (Prim Null) start (object 2) ≡ Ok true
has_member = refl

has_no_member : set_has (Prim one) start (object 2) ≡ Ok false
has_no_member = refl

frozen_has : set_has (Prim Null) start (Frozen 2) ≡ Ok true
frozen_has = refl

member_on_map : set_has (Prim one) start (object 1) ≡ Err fault.TypeMismatch
member_on_map = refl

has_container_member : set_has (object 0) start (object 2) ≡ Err fault.BadKey
has_container_member = refl

-- ---- `set_delete`
dropped : shown (left start (set_delete (Prim Null) start (object 2))) (object 2) ≡ content kind.Set 2 [] true
dropped = refl

dropped_answer : answer (set_delete (Prim Null) start (object 2)) ≡ Ok true
dropped_answer = refl

dropped_nothing : shown (left start (set_delete (Prim one) start (object 2))) (object 2) ≡ content kind.Set 2 ((Null, Prim Null) ∷ []) false
dropped_nothing = refl

drop_on_frozen : set_delete (object 0) start (Frozen 2) ≡ Err fault.Frozen
drop_on_frozen = refl

drop_container : set_delete (object 0) start (object 2) ≡ Err fault.BadKey
drop_container = refl

-- ---- `set_clear`
emptied : shown (left start (set_clear start (object 2))) (object 2) ≡ content kind.Set 2 [] true
emptied = refl

empty_on_frozen : set_clear start (Frozen 2) ≡ Err fault.Frozen
empty_on_frozen = refl

empty_on_map : set_clear start (object 1) ≡ Err fault.TypeMismatch
empty_on_map = refl

-- ---- `size`
two_entries : size start (object 1) ≡ Ok 2
two_entries = refl

one_member : size start (Frozen 2) ≡ Ok 1
one_member = refl

size_of_object : size start (object 0) ≡ Err fault.TypeMismatch
size_of_object = refl

size_of_undefined : size start Undefined ≡ Err fault.TypeMismatch
size_of_undefined = refl

foreign_size : size start foreign ≡ Err fault.Revoked
foreign_size = refl

-- ---- `member_keys`: integers before texts
key_list : shown (left start (member_keys start (object 1))) (object 3) ≡ Some (fresh kind.List ((Null, Prim one) ∷ (Null, text_value (codes "1")) ∷ []))
key_list = refl

key_list_answer : answer (member_keys start (object 1)) ≡ Ok (object 3)
key_list_answer = refl

member_list : shown (left start (member_keys start (Frozen 2))) (object 3) ≡ Some (fresh kind.List ((Null, Prim Null) ∷ []))
member_list = refl

keys_of_object : member_keys start (object 0) ≡ Err fault.TypeMismatch
keys_of_object = refl

-- ---- a fresh Set is empty and may be written
fresh_set : shown (left (new_set start) (set_add (Prim Null) (new_set start) (object 3))) (object 3) ≡ Some (record { kind = kind.Set; table = (Null, Prim Null) ∷ []; source = None; written = true })
fresh_set = refl

-- ---- the longest key and member are taken
longest_key : marked (left start (map_set longest (Prim Null) start (object 1))) (object 1) ≡ true
unfolding longest
longest_key = refl

longest_member : marked (left start (set_add longest start (object 2))) (object 2) ≡ true
unfolding longest
longest_member = refl

-- a longer one is in no Map and no Set
long_in_map : map_has long_key start (object 1) ≡ Ok false
unfolding long_key
long_in_map = refl

long_in_set : set_has long_key start (object 2) ≡ Ok false
unfolding long_key
long_in_set = refl

drop_long : shown (left start (set_delete long_key start (object 2))) (object 2) ≡ content kind.Set 2 ((Null, Prim Null) ∷ []) false
unfolding long_key
drop_long = refl

-- ---- a frozen node and `undefined` are no keys
frozen_key : map_get (Frozen 1) start (object 1) ≡ Err fault.BadKey
frozen_key = refl

frozen_member : set_add (Frozen 1) start (object 2) ≡ Err fault.BadKey
frozen_member = refl

key_on_frozen : map_has (object 0) start (Frozen 1) ≡ Err fault.BadKey
key_on_frozen = refl

member_on_frozen : set_has (object 0) start (Frozen 2) ≡ Err fault.BadKey
member_on_frozen = refl

undefined_set : map_set Undefined (Prim Null) start (object 1) ≡ Err fault.BadKey
undefined_set = refl

undefined_has : map_has Undefined start (object 1) ≡ Err fault.BadKey
undefined_has = refl

undefined_delete : map_delete Undefined start (object 1) ≡ Err fault.BadKey
undefined_delete = refl

undefined_member : set_has Undefined start (object 2) ≡ Err fault.BadKey
undefined_member = refl

undefined_drop : set_delete Undefined start (object 2) ≡ Err fault.BadKey
undefined_drop = refl

-- ---- a reference of another scope comes first, also as key, member or value
foreign_has : map_has foreign start (object 2) ≡ Err fault.Revoked
foreign_has = refl

foreign_set_key : map_set foreign Undefined start (Frozen 1) ≡ Err fault.Revoked
foreign_set_key = refl

foreign_set_map : map_set (Prim one) (Prim Null) start foreign ≡ Err fault.Revoked
foreign_set_map = refl

foreign_delete : map_delete foreign start (Frozen 1) ≡ Err fault.Revoked
foreign_delete = refl

foreign_set_has : set_has foreign start (object 1) ≡ Err fault.Revoked
foreign_set_has = refl

foreign_drop : set_delete foreign start (Frozen 2) ≡ Err fault.Revoked
foreign_drop = refl

foreign_set_clear : set_clear start foreign ≡ Err fault.Revoked
foreign_set_clear = refl

foreign_keys : member_keys start foreign ≡ Err fault.Revoked
foreign_keys = refl

-- ---- frozen, also where nothing would change
delete_absent_frozen : map_delete (Prim Null) start (Frozen 1) ≡ Err fault.Frozen
delete_absent_frozen = refl

abbrev none_there : Heap
none_there = opened 7 (node 1 kind.Map none ∷ node 2 kind.Set none ∷ node 3 kind.Obj (branch (Text (codes "m")) (node 1 kind.Map none) (branch (Text (codes "s")) (node 2 kind.Set none) none)) ∷ []) 3

clear_empty_frozen : map_clear none_there (Frozen 1) ≡ Err fault.Frozen
clear_empty_frozen = refl

clear_empty_set : shown (left none_there (set_clear none_there (object 2))) (object 2) ≡ content kind.Set 2 [] false
clear_empty_set = refl

size_empty : size none_there (object 1) ≡ Ok 0
size_empty = refl

keys_of_empty : shown (left none_there (member_keys none_there (object 1))) (object 3) ≡ Some (fresh kind.List [])
keys_of_empty = refl

keys_of_frozen : shown (left start (member_keys start (Frozen 1))) (object 3) ≡ Some (fresh kind.List ((Null, Prim one) ∷ (Null, text_value (codes "1")) ∷ []))
keys_of_frozen = refl

keys_of_primitive : member_keys start (Prim Null) ≡ Err fault.TypeMismatch
keys_of_primitive = refl

-- ---- a container under a key: {"m":{"$map":[[true,{}]]}}, whose inner object is 1, whose Map is 2, and the root 3
abbrev holder : Tree
holder = node 2 kind.Map (branch (key.Bool true) (node 1 kind.Obj none) none)

abbrev nested : Heap
nested = opened 7 (node 1 kind.Obj none ∷ holder ∷ node 3 kind.Obj (branch (Text (codes "m")) holder none) ∷ []) 3

-- its draft, and of the frozen Map the frozen node
inner_draft : map_get (Prim (key.Bool true)) nested (object 1) ≡ Ok (object 2)
inner_draft = refl

inner_frozen : map_get (Prim (key.Bool true)) nested (Frozen 2) ≡ Ok (Frozen 1)
inner_frozen = refl

-- true and 1 are two keys
no_number : map_get (Prim one) nested (object 1) ≡ Ok Undefined
no_number = refl

-- the frozen node over its own draft is a write
base_put : shown (left nested (map_set (Prim (key.Bool true)) (Frozen 1) nested (object 1))) (object 1) ≡ content kind.Map 2 ((key.Bool true, Frozen 1) ∷ []) true
base_put = refl

-- ---- the order of keys: null, false, true, integers by value, texts
abbrev adding : Rv → Heap → Heap
adding k h = left h (set_add k h (object 3))

key_order : shown (adding (Prim Null) (adding (Prim (key.Bool false)) (adding (Prim (key.Bool true)) (adding (Prim (Int (negsuc 4))) (adding (Prim one) (adding (Prim (Int (pos 0))) (adding (text_value (codes "")) (new_set start)))))))) (object 3) ≡ Some (record {
  kind = kind.Set;
  table = (Null, Prim Null) ∷ (key.Bool false, Prim (key.Bool false)) ∷ (key.Bool true, Prim (key.Bool true)) ∷ (Int (negsuc 4), Prim (Int (negsuc 4))) ∷ (Int (pos 0), Prim (Int (pos 0))) ∷ (one, Prim one) ∷ (Text (codes ""), text_value (codes "")) ∷ [];
  source = None;
  written = true;
})
key_order = refl
