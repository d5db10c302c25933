-- Worked rows. Scope 7 is begun at the state {"a":1,"l":[1,2],"n":[[],[],[]]}, whose list l is 1, whose empty list is 2, list n 3
-- and the root 4; its drafts are 0 (the root), 1 (l), 2 (n) and 3, 4, 5 (the elements of n).
use Rattle.std.specs.Prelude.{◌≡◌, ℕ, pos, negsuc, List, [], ◌∷◌, codes, refl, Option, Some, None, Bool, true, false, Result, Ok, Err}
use Rattle.value_model.specs.declared.key.Key.TheVariants.{Null, Int, Text}
use Rattle.value_model.specs.declared.kind.Kind.TheVariants as kind
use Rattle.numbered.specs.Tree.{Tree, prim, node, none, branch}
use Rattle.run_heap.specs.declared.value.Rv.{Rv}
use Rattle.run_heap.specs.declared.value.Rv.TheVariants.{Undefined, Prim, Obj, Frozen}
use Rattle.run_heap.specs.declared.content.Content.{Content}
use Rattle.run_heap.specs.declared.fault.DraftFault.{DraftFault}
use Rattle.run_heap.specs.declared.fault.DraftFault.TheVariants as fault
use Rattle.run_heap.specs.Heap.{Heap, opened, shown, fresh}
use Rattle.run_heap.specs.Operations.{marked}
use Rattle.array_ops_spec.specs.Calls.{items, push, unshift, pop, shift, splice, reverse, slice, index_of, includes, set_length}

abbrev int : ℕ → Rv
int n = Prim (Int (pos n))

abbrev pair : Tree
pair = node 1 kind.List (branch Null (prim (Int (pos 1))) (branch Null (prim (Int (pos 2))) none))

abbrev empty : Tree
empty = node 2 kind.List none

abbrev three : Tree
three = node 3 kind.List (branch Null empty (branch Null empty (branch Null empty none)))

abbrev top : Tree
top = node 4 kind.Obj (branch (Text (codes "a")) (prim (Int (pos 1))) (branch (Text (codes "l")) pair (branch (Text (codes "n")) three none)))

abbrev start : Heap
start = opened 7 (pair ∷ empty ∷ three ∷ top ∷ []) 4

abbrev object : ℕ → Rv
object n = Obj (record { scope = 7; slot = n })

abbrev foreign : Rv
foreign = Obj (record { scope = 8; slot = 0 })

-- the heap that a call leaves
abbrev left : {X : Type 0} → Result (Heap × X) DraftFault → Heap
left (Ok p) = p.0
left (Err e) = start

-- what it answers
abbrev answer : {X : Type 0} → Result (Heap × X) DraftFault → Result X DraftFault
answer (Ok p) = Ok p.1
answer (Err e) = Err e

-- the list l then
abbrev l_after : {X : Type 0} → Result (Heap × X) DraftFault → Option Content
l_after r = shown (left r) (object 1)

abbrev l_is : List Rv → Bool → Option Content
l_is vs written = Some (record { kind = kind.List; table = items vs; source = Some 1; written = written })

abbrev fresh_list : List Rv → Option Content
fresh_list vs = Some (fresh kind.List (items vs))

-- ---- `push` and `unshift`
push_answer : answer (push (int 3 ∷ object 1 ∷ []) start (object 1)) ≡ Ok 4
push_answer = refl

push_leaves : l_after (push (int 3 ∷ object 1 ∷ []) start (object 1)) ≡ l_is (int 1 ∷ int 2 ∷ int 3 ∷ object 1 ∷ []) true
push_leaves = refl

push_nothing : l_after (push [] start (object 1)) ≡ l_is (int 1 ∷ int 2 ∷ []) false
push_nothing = refl

unshift_answer : answer (unshift (int 3 ∷ int 4 ∷ []) start (object 1)) ≡ Ok 4
unshift_answer = refl

unshift_leaves : l_after (unshift (int 3 ∷ int 4 ∷ []) start (object 1)) ≡ l_is (int 3 ∷ int 4 ∷ int 1 ∷ int 2 ∷ []) true
unshift_leaves = refl

-- ---- `pop` and `shift`
pop_answer : answer (pop start (object 1)) ≡ Ok (int 2)
pop_answer = refl

pop_leaves : l_after (pop start (object 1)) ≡ l_is (int 1 ∷ []) true
pop_leaves = refl

pop_empty : pop start (object 3) ≡ Ok (left (pop start (object 3)), Undefined)
pop_empty = refl

pop_empty_mark : marked (left (pop start (object 3))) (object 3) ≡ false
pop_empty_mark = refl

shift_answer : answer (shift start (object 1)) ≡ Ok (int 1)
shift_answer = refl

shift_leaves : l_after (shift start (object 1)) ≡ l_is (int 2 ∷ []) true
shift_leaves = refl

-- an element that is removed is the draft of its place
shift_draft : answer (shift start (object 2)) ≡ Ok (object 3)
shift_draft = refl

pop_draft : answer (pop start (object 2)) ≡ Ok (object 5)
pop_draft = refl

shift_empty : answer (shift start (object 3)) ≡ Ok Undefined
shift_empty = refl

-- ---- `splice`
abbrev cut_one : Result (Heap × Rv) DraftFault
cut_one = splice (pos 0) (Some (pos 1)) (int 8 ∷ int 9 ∷ []) start (object 1)

splice_answer : answer cut_one ≡ Ok (object 6)
splice_answer = refl

splice_removed : shown (left cut_one) (object 6) ≡ fresh_list (int 1 ∷ [])
splice_removed = refl

splice_leaves : l_after cut_one ≡ l_is (int 8 ∷ int 9 ∷ int 2 ∷ []) true
splice_leaves = refl

-- without a count all elements from the start on are removed
splice_rest : l_after (splice (negsuc 0) None [] start (object 1)) ≡ l_is (int 1 ∷ []) true
splice_rest = refl

splice_negative_count : l_after (splice (pos 0) (Some (negsuc 0)) [] start (object 1)) ≡ l_is (int 1 ∷ int 2 ∷ []) false
splice_negative_count = refl

splice_far : l_after (splice (pos 9) (Some (pos 9)) (int 3 ∷ []) start (object 1)) ≡ l_is (int 1 ∷ int 2 ∷ int 3 ∷ []) true
splice_far = refl

splice_far_back : l_after (splice (negsuc 8) (Some (pos 9)) (int 3 ∷ []) start (object 1)) ≡ l_is (int 3 ∷ []) true
splice_far_back = refl

-- a list may be spliced into itself
splice_itself : l_after (splice (pos 1) (Some (pos 1)) (object 1 ∷ object 1 ∷ []) start (object 1)) ≡ l_is (int 1 ∷ object 1 ∷ object 1 ∷ []) true
splice_itself = refl

-- what was removed is put back: the list is as it was, and no mark is set
splice_same : l_after (splice (pos 0) (Some (pos 1)) (int 1 ∷ []) start (object 1)) ≡ l_is (int 1 ∷ int 2 ∷ []) false
splice_same = refl

splice_drafts : shown (left (splice (pos 1) None [] start (object 2))) (object 6) ≡ fresh_list (object 4 ∷ object 5 ∷ [])
splice_drafts = refl

-- ---- `reverse`
reverse_leaves : l_after (reverse start (object 1)) ≡ l_is (int 2 ∷ int 1 ∷ []) true
reverse_leaves = refl

-- a list that reads the same both ways is not marked
palindrome : marked (left (reverse (left (slice (pos 0) None start (Frozen 3))) (object 6))) (object 6) ≡ false
palindrome = refl

reverse_empty : marked (left (reverse start (object 3))) (object 3) ≡ false
reverse_empty = refl

-- three drafts are three objects, though they were opened on one node
reverse_drafts : shown (left (reverse start (object 2))) (object 2) ≡ Some (record { kind = kind.List; table = items (object 5 ∷ object 4 ∷ object 3 ∷ []); source = Some 3; written = true })
reverse_drafts = refl

-- ---- `slice`
slice_all : shown (left (slice (pos 0) None start (object 1))) (object 6) ≡ fresh_list (int 1 ∷ int 2 ∷ [])
slice_all = refl

slice_last : shown (left (slice (negsuc 0) None start (object 1))) (object 6) ≡ fresh_list (int 2 ∷ [])
slice_last = refl

slice_but_last : shown (left (slice (negsuc 8) (Some (negsuc 0)) start (object 1))) (object 6) ≡ fresh_list (int 1 ∷ [])
slice_but_last = refl

slice_turned : shown (left (slice (pos 2) (Some (pos 1)) start (object 1))) (object 6) ≡ fresh_list []
slice_turned = refl

slice_far : shown (left (slice (pos 1) (Some (pos 9)) start (object 1))) (object 6) ≡ fresh_list (int 2 ∷ [])
slice_far = refl

slice_drafts : shown (left (slice (pos 0) (Some (pos 1)) start (object 2))) (object 6) ≡ fresh_list (object 3 ∷ [])
slice_drafts = refl

-- of a frozen list frozen elements are read
slice_frozen : shown (left (slice (pos 2) None start (Frozen 3))) (object 6) ≡ fresh_list (Frozen 2 ∷ [])
slice_frozen = refl

-- ---- `index_of` and `includes`
index : index_of (int 2) start (object 1) ≡ Ok (pos 1)
index = refl

no_index : index_of (int 3) start (object 1) ≡ Ok (negsuc 0)
no_index = refl

-- the first of several
first_index : index_of (Frozen 2) start (Frozen 3) ≡ Ok (pos 0)
first_index = refl

index_of_draft : index_of (object 4) start (object 2) ≡ Ok (pos 1)
index_of_draft = refl

-- a draft isn't the node that it was opened on
index_of_node : index_of (Frozen 2) start (object 2) ≡ Ok (negsuc 0)
index_of_node = refl

index_of_undefined : index_of Undefined start (object 1) ≡ Ok (negsuc 0)
index_of_undefined = refl

included : includes (int 2) start (object 1) ≡ Ok true
included = refl

not_included : includes (int 0) start (object 1) ≡ Ok false
not_included = refl

-- ---- `set_length`
length_cut : l_after (set_length (pos 1) start (object 1)) ≡ l_is (int 1 ∷ []) true
length_cut = refl

length_kept : l_after (set_length (pos 2) start (object 1)) ≡ l_is (int 1 ∷ int 2 ∷ []) false
length_kept = refl

length_past : set_length (pos 3) start (object 1) ≡ Err fault.Hole
length_past = refl

length_negative : set_length (negsuc 0) start (object 1) ≡ Err fault.Hole
length_negative = refl

-- ---- refusals, the first cause first
push_foreign : push (Undefined ∷ foreign ∷ []) start (Prim Null) ≡ Err fault.Revoked
push_foreign = refl

push_on_foreign : push [] start foreign ≡ Err fault.Revoked
push_on_foreign = refl

push_on_object : push (Undefined ∷ []) start (object 0) ≡ Err fault.TypeMismatch
push_on_object = refl

push_on_frozen_object : push [] start (Frozen 4) ≡ Err fault.TypeMismatch
push_on_frozen_object = refl

push_on_undefined : push [] start Undefined ≡ Err fault.TypeMismatch
push_on_undefined = refl

push_on_frozen : push (Undefined ∷ []) start (Frozen 1) ≡ Err fault.Frozen
push_on_frozen = refl

push_undefined : push (int 1 ∷ Undefined ∷ []) start (object 1) ≡ Err fault.UndefinedWrite
push_undefined = refl

unshift_undefined : unshift (Undefined ∷ []) start (object 1) ≡ Err fault.UndefinedWrite
unshift_undefined = refl

unshift_on_frozen : unshift [] start (Frozen 1) ≡ Err fault.Frozen
unshift_on_frozen = refl

pop_on_frozen : pop start (Frozen 2) ≡ Err fault.Frozen
pop_on_frozen = refl

shift_on_frozen : shift start (Frozen 2) ≡ Err fault.Frozen
shift_on_frozen = refl

reverse_on_frozen : reverse start (Frozen 2) ≡ Err fault.Frozen
reverse_on_frozen = refl

splice_on_frozen : splice (pos 0) None (Undefined ∷ []) start (Frozen 2) ≡ Err fault.Frozen
splice_on_frozen = refl

splice_undefined : splice (pos 0) None (Undefined ∷ []) start (object 1) ≡ Err fault.UndefinedWrite
splice_undefined = refl

splice_foreign : splice (pos 0) None (foreign ∷ []) start (object 0) ≡ Err fault.Revoked
splice_foreign = refl

length_on_frozen : set_length (pos 9) start (Frozen 1) ≡ Err fault.Frozen
length_on_frozen = refl

slice_on_object : slice (pos 0) None start (object 0) ≡ Err fault.TypeMismatch
slice_on_object = refl

slice_on_foreign : slice (pos 0) None start foreign ≡ Err fault.Revoked
slice_on_foreign = refl

index_on_object : index_of Undefined start (object 0) ≡ Err fault.TypeMismatch
index_on_object = refl

index_of_foreign : index_of foreign start (object 0) ≡ Err fault.Revoked
index_of_foreign = refl

includes_on_primitive : includes (int 1) start (Prim Null) ≡ Err fault.TypeMismatch
includes_on_primitive = refl

includes_on_foreign : includes (int 1) start foreign ≡ Err fault.Revoked
includes_on_foreign = refl

-- ---- more rows
splice_insert : l_after (splice (pos 1) (Some (pos 0)) (int 7 ∷ []) start (object 1)) ≡ l_is (int 1 ∷ int 7 ∷ int 2 ∷ []) true
splice_insert = refl

splice_none_removed : shown (left (splice (pos 1) (Some (pos 0)) (int 7 ∷ []) start (object 1))) (object 6) ≡ fresh_list []
splice_none_removed = refl

splice_before_end : l_after (splice (negsuc 1) (Some (pos 1)) [] start (object 1)) ≡ l_is (int 2 ∷ []) true
splice_before_end = refl

-- the least index of 64 bits
splice_least : l_after (splice (negsuc 9223372036854775807) None [] start (object 1)) ≡ l_is [] true
splice_least = refl

slice_least : shown (left (slice (pos 0) (Some (negsuc 9223372036854775807)) start (object 1))) (object 6) ≡ fresh_list []
slice_least = refl

slice_empty : shown (left (slice (pos 0) None start (object 3))) (object 6) ≡ fresh_list []
slice_empty = refl

unshift_nothing : unshift [] start (object 1) ≡ Ok (left (unshift [] start (object 1)), 2)
unshift_nothing = refl

unshift_nothing_mark : marked (left (unshift [] start (object 1))) (object 1) ≡ false
unshift_nothing_mark = refl

push_itself : l_after (push (object 1 ∷ []) start (object 1)) ≡ l_is (int 1 ∷ int 2 ∷ object 1 ∷ []) true
push_itself = refl

push_frozen : l_after (push (Frozen 1 ∷ []) start (object 1)) ≡ l_is (int 1 ∷ int 2 ∷ Frozen 1 ∷ []) true
push_frozen = refl

length_none : l_after (set_length (pos 0) start (object 1)) ≡ l_is [] true
length_none = refl

included_undefined : includes Undefined start (object 1) ≡ Ok false
included_undefined = refl

included_foreign : includes foreign start (object 1) ≡ Err fault.Revoked
included_foreign = refl

-- a call that is refused uses no name up
no_name_used : answer (slice (pos 0) None (left (splice (pos 0) None (Undefined ∷ []) start (object 1))) (object 1)) ≡ Ok (object 6)
no_name_used = refl

pop_on_object : pop start (object 0) ≡ Err fault.TypeMismatch
pop_on_object = refl

shift_on_primitive : shift start (int 1) ≡ Err fault.TypeMismatch
shift_on_primitive = refl

unshift_on_frozen_object : unshift [] start (Frozen 4) ≡ Err fault.TypeMismatch
unshift_on_frozen_object = refl

reverse_on_object : reverse start (object 0) ≡ Err fault.TypeMismatch
reverse_on_object = refl

splice_on_object : splice (pos 0) None (Undefined ∷ []) start (object 0) ≡ Err fault.TypeMismatch
splice_on_object = refl

length_on_object : set_length (negsuc 0) start (object 0) ≡ Err fault.TypeMismatch
length_on_object = refl

pop_on_foreign : pop start foreign ≡ Err fault.Revoked
pop_on_foreign = refl

shift_on_foreign : shift start foreign ≡ Err fault.Revoked
shift_on_foreign = refl

unshift_foreign : unshift (foreign ∷ Undefined ∷ []) start (object 0) ≡ Err fault.Revoked
unshift_foreign = refl

reverse_on_foreign : reverse start foreign ≡ Err fault.Revoked
reverse_on_foreign = refl

length_on_foreign : set_length (negsuc 0) start foreign ≡ Err fault.Revoked
length_on_foreign = refl
