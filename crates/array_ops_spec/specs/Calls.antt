-- What the calls on lists answer and leave: the methods of ECMA-262's Array, as functions on a list's elements. A list has no
-- holes and nothing undefined in it. Where several refusals hold, the first in the order of `DraftFault` is answered.
use Rattle.std.specs.Prelude as std
use Rattle.std.specs.Prelude.{ℕ, ◌+◌, ◌-◌, ℤ, pos, negsuc, min, List, [], ◌∷◌, ◌++◌, length, map, take, drop, slice_get, slice_range, Option, Some, None, Bool, true, not, nat_lt, Result, Ok, Err}
use Rattle.std.specs.List as list
use Rattle.std.specs.List.{list_any, position}
use Rattle.run_heap.specs.declared.value.Rv.{Rv}
use Rattle.run_heap.specs.declared.content.Content.{Content}
use Rattle.run_heap.specs.declared.fault.DraftFault.{DraftFault}
use Rattle.run_heap.specs.declared.fault.DraftFault.TheVariants as fault
use Rattle.run_heap.specs.Heap.{Heap}
use Rattle.run_heap.specs.Operations.{Rows, Edit, unless, read, edited, item, is_undefined, or_undefined, then_list}
use Rattle.value_model.specs.Kinds.{is_list}
use Rattle.run_heap.specs.Values.{same}

-- the elements of a list's table
abbrev pub elements : Rows → List Rv
elements t = map (λ e. e.1) t

-- the table of a list with these elements
abbrev pub items : List Rv → Rows
items vs = map item vs

-- ---- indexes
-- an index counted from the start, or, where it is negative, from the end: at least 0, and at most the length n
abbrev pub relative : ℤ → ℕ → ℕ
relative (pos i) n = min i n
relative (negsuc i) n = n - (i + 1)

-- the same of an end, which is the length where it is left out
abbrev pub end_at : Option ℤ → ℕ → ℕ
end_at None n = n
end_at (Some i) n = relative i n

-- how many elements are removed of so many: as many as are asked for, or all where no count is given
abbrev pub removed : Option ℤ → ℕ → ℕ
removed None n = n
removed (Some (pos k)) n = min k n
removed (Some (negsuc k)) n = 0

-- a length that a list of so many elements can't be cut to: it is negative, or past the end
abbrev pub is_past : ℤ → ℕ → Bool
is_past (pos k) n = nat_lt n k
is_past (negsuc k) n = true

-- a length as a number of elements; a negative one is refused before
abbrev pub natural : ℤ → ℕ
natural (pos n) = n
natural (negsuc n) = 0

-- ---- calls that write a list
-- the elements that it has then, and the answer, as the table and the answer
abbrev pub with_items : {X : Type 0} → Result (List Rv × X) DraftFault → Result (Rows × X) DraftFault
with_items (Ok left) = Ok (items left.0, left.1)
with_items (Err e) = Err e

abbrev pub on_list : {X : Type 0} → (List Rv → Result (List Rv × X) DraftFault) → Edit X
on_list f = record { takes = is_list; leaves = λ _ t. with_items (f (elements t)) }

-- nothing undefined is stored
abbrev pub storing : {X : Type 0} → List Rv → Result X DraftFault → Result X DraftFault
storing vs r = unless ((list_any is_undefined vs, fault.UndefinedWrite) ∷ []) r

-- the items behind the elements; the answer is the new length
abbrev pub pushed : List Rv → List Rv → Result (List Rv × ℕ) DraftFault
pushed vs xs = storing vs (Ok (xs ++ vs, length xs + length vs))

abbrev pub push : List Rv → Heap → Rv → Result (Heap × ℕ) DraftFault
push vs h of = edited (on_list (pushed vs)) h of vs

-- the items before them
abbrev pub unshifted : List Rv → List Rv → Result (List Rv × ℕ) DraftFault
unshifted vs xs = storing vs (Ok (vs ++ xs, length xs + length vs))

abbrev pub unshift : List Rv → Heap → Rv → Result (Heap × ℕ) DraftFault
unshift vs h of = edited (on_list (unshifted vs)) h of vs

-- without the last element, which is the answer
abbrev pub popped : List Rv → Result (List Rv × Rv) DraftFault
popped xs = Ok (take (length xs - 1) xs, or_undefined (slice_get xs (length xs - 1)))

abbrev pub pop : Heap → Rv → Result (Heap × Rv) DraftFault
pop h of = edited (on_list popped) h of []

-- without the first one
abbrev pub shifted : List Rv → Result (List Rv × Rv) DraftFault
shifted xs = Ok (drop 1 xs, or_undefined (slice_get xs 0))

abbrev pub shift : Heap → Rv → Result (Heap × Rv) DraftFault
shift h of = edited (on_list shifted) h of []

-- the items in place of the elements from one index up to another; the answer is what stood there
abbrev pub exchanged : ℕ → ℕ → List Rv → List Rv → Result (List Rv × List Rv) DraftFault
exchanged from to vs xs = storing vs (Ok (list.splice xs from to vs, slice_range xs from to))

abbrev pub splice_from : ℕ → Option ℤ → List Rv → List Rv → Result (List Rv × List Rv) DraftFault
splice_from from count vs xs = exchanged from (from + removed count (length xs - from)) vs xs

abbrev pub spliced_at : ℤ → Option ℤ → List Rv → List Rv → Result (List Rv × List Rv) DraftFault
spliced_at start count vs xs = splice_from (relative start (length xs)) count vs xs

-- values that are answered as a fresh list
abbrev pub answer_list : Result (Heap × List Rv) DraftFault → Result (Heap × Rv) DraftFault
answer_list (Ok left) = then_list left.0 (Ok (items left.1))
answer_list (Err e) = Err e

abbrev pub splice : ℤ → Option ℤ → List Rv → Heap → Rv → Result (Heap × Rv) DraftFault
splice start count vs h of = answer_list (edited (on_list (spliced_at start count vs)) h of vs)

-- the other way round
abbrev pub turned : List Rv → Result (List Rv × Unit {0}) DraftFault
turned xs = Ok (std.reverse xs, tt)

abbrev pub reverse : Heap → Rv → Result (Heap × Unit {0}) DraftFault
reverse h of = edited (on_list turned) h of []

-- the first n elements, where n is at most the length
abbrev pub cut_to : ℤ → List Rv → Result (List Rv × Unit {0}) DraftFault
cut_to n xs = unless ((is_past n (length xs), fault.Hole) ∷ []) (Ok (take (natural n) xs, tt))

abbrev pub set_length : ℤ → Heap → Rv → Result (Heap × Unit {0}) DraftFault
set_length n h of = edited (on_list (cut_to n)) h of []

-- ---- calls that read a list
abbrev pub read_shown : {X : Type 0} → (List Rv → X) → Content → Result X DraftFault
read_shown f c = unless ((not (is_list c.kind), fault.TypeMismatch) ∷ []) (Ok (f (elements c.table)))

abbrev pub read_list : {X : Type 0} → (List Rv → X) → Heap → Rv → List Rv → Result X DraftFault
read_list f h of others = read (read_shown f) h of others

-- a fresh list of the elements from an index up to another
abbrev pub sliced : ℤ → Option ℤ → List Rv → List Rv
sliced start end xs = slice_range xs (relative start (length xs)) (end_at end (length xs))

abbrev pub slice : ℤ → Option ℤ → Heap → Rv → Result (Heap × Rv) DraftFault
slice start end h of = then_list h (read_list (λ xs. items (sliced start end xs)) h of [])

-- the index of the first element that is the same as a value, or -1
abbrev pub index_or : Option ℕ → ℤ
index_or None = negsuc 0
index_or (Some i) = pos i

abbrev pub index_of : Rv → Heap → Rv → Result ℤ DraftFault
index_of v h of = read_list (λ xs. index_or (position (λ x. same x v) xs)) h of (v ∷ [])

abbrev pub includes : Rv → Heap → Rv → Result Bool DraftFault
includes v h of = read_list (λ xs. list_any (λ x. same x v) xs) h of (v ∷ [])
