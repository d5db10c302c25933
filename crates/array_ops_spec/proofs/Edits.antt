-- What replacing a range of a list's elements makes of the list: laws.
use Rattle.std.proofs.Common.{◌≡◌, ℕ, zero, suc, ◌<◌, ◌≤◌, ◌+◌, ◌-◌, min, List, [], ◌∷◌, ◌++◌, length, map, take, drop, reverse, refl, ap, sym, ◌∙◌, subst, arith, Bool, true, false, cond}
use Rattle.std.proofs.Math.Seq.{drop-length, take-length}
use Rattle.std.proofs.lemmas.List.{append-nil, append_assoc, map-append, length-map}
use Rattle.std.proofs.lemmas.Option.{slice_get-map}
use mathlib.Core.List.{reverse_aux}
use Rattle.std.specs.Prelude.{pos, negsuc, ◌≤ℤ◌, ◌<ℤ◌, unsigned_abs, IfSome, Option, Some, None, is_some, option_map, Result, Ok, Err, nat_lt, slice_get, slice_range, IsTrue, ℤ}
use Rattle.std.specs.List as list
use Rattle.std.specs.List.{list_any, position, position_or_len, take-map, drop-map}
use Rattle.value_model.specs.declared.key.Key.TheVariants as key
use Rattle.value_model.specs.declared.kind.Kind.{Kind}
use Rattle.value_model.specs.declared.kind.Kind.TheVariants as kind
use Rattle.run_heap.specs.declared.value.Rv.{Rv}
use Rattle.run_heap.specs.declared.value.Rv.TheVariants.{Undefined, Prim, Obj, Frozen}
use Rattle.run_heap.specs.declared.content.Content.{Content}
use Rattle.run_heap.specs.declared.fault.DraftFault.{DraftFault}
use Rattle.run_heap.specs.declared.fault.DraftFault.TheVariants as fault
use Rattle.run_heap.specs.Heap.{Heap, fresh, next_object, shown, with_object, write_table}
use Rattle.run_heap.specs.Operations.{Rows, edited, is_undefined, item, kind_of, or_undefined, rewrite_shown, rows_of, splice_at, spliced, table_of, then_list, value_at}
use Rattle.numbered.specs.Store.{IsNumber}
use Rattle.numbered.specs.Tree.{Tree}
use Rattle.run_heap.specs.Sound.{Fits, Grows, IsObject, IsSound, IsContent, IsStored, AllStored, all_stand}
use Rattle.run_heap.specs.Values.{same}
use Rattle.array_ops_spec.specs.Calls.{elements, items, on_list, relative, end_at, removed, is_past, natural, pushed, unshifted, popped, shifted, turned, cut_to, spliced_at, answer_list, splice, sliced, slice, index_or, index_of, includes}
use Rattle.array_ops_spec.specs.Guards.{elements_of, with_elements, readable, writable, IsReadable, IsWritable, row_done, row_refused, row_stopped, read_done, read_refused}

-- ---- tables of lists
items_elements : (t : Rows) → IsTrue (all_stand kind.List t) → items (elements t) ≡ t
items_elements [] s = refl
items_elements ((key.Null, v) ∷ t) s = ap (λ (u : Rows). item v ∷ u) (items_elements t s)
items_elements ((key.Bool b, v) ∷ t) s = absurd (cc)
items_elements ((key.Int n, v) ∷ t) s = absurd (cc)
items_elements ((key.Text b, v) ∷ t) s = absurd (cc)

splice_map : (from to : ℕ) (xs vs : List Rv) → spliced from to vs (items xs) ≡ items (list.splice xs from to vs)
splice_map from to xs vs =
    rw (take-map item from xs, drop-map item to xs)
    (sym (map-append item (take from xs) (vs ++ drop to xs) ∙ ap (λ (u : Rows). items (take from xs) ++ u) (map-append item vs (drop to xs))))

spliced_items : (from to : ℕ) (vs : List Rv) (t : Rows) → IsTrue (all_stand kind.List t) → spliced from to vs t ≡ items (list.splice (elements t) from to vs)
spliced_items from to vs t s = ap (spliced from to vs) (sym (items_elements t s)) ∙ splice_map from to (elements t) vs

-- ---- the heap after a range was replaced
content_there : (h : Heap) (of : Rv) → IsSound h → IsObject h of → IsContent h (shown h of)
content_there h Undefined s o = absurd o
content_there h (Prim k) s o = absurd o
content_there h (Obj r) s o = s.tables r.slot
content_there h (Frozen id) s o = absurd o

some_kind : (j k : Kind) → (let o : Option Kind = Some j in o) ≡ Some k → j ≡ k
some_kind j k p = cc

spliced_shown : (h : Heap) (of : Rv) (from to : ℕ) (vs : List Rv) (s : Option Content) → IsContent h s → option_map (λ (c : Content). c.kind) s ≡ Some kind.List → rewrite_shown (spliced from to vs) h of s ≡ rewrite_shown (λ _. items (list.splice (elements (rows_of s)) from to vs)) h of s
spliced_shown h of from to vs None t k = refl
spliced_shown h of from to vs (Some c) t k =
    let list : c.kind ≡ kind.List = some_kind c.kind kind.List k in
    let stand = subst (λ (of' : Kind). IsTrue (all_stand of' c.table)) list t.stand in
    ap (λ (u : Rows). write_table u c of h) (spliced_items from to vs c.table stand)

pub spliced_elements : (h : Heap) (of : Rv) (from to : ℕ) (vs : List Rv) → IsSound h → IsObject h of → kind_of h of ≡ Some kind.List → splice_at from to vs h of ≡ with_elements (list.splice (elements_of h of) from to vs) h of
spliced_elements h of from to vs s o k = spliced_shown h of from to vs (shown h of) (content_there h of s o) k

module _ {X : Type 0} (f : List Rv → Result (List Rv × X) DraftFault) where
  pub row_spliced : (h g : Heap) (of : Rv) (others : List Rv) (n from to : ℕ) (vs : List Rv) (a : X) → IsSound h → IsWritable h of others n → f (elements_of h of) ≡ Ok (list.splice (elements_of h of) from to vs, a) → g ≡ splice_at from to vs h of → edited (on_list f) h of others ≡ Ok (g, a)
  row_spliced h g of others n from to vs a s w p q =
      let ys = list.splice (elements_of h of) from to vs in
      row_done f h of others (elements_of h of) ys a w.found p
      ∙ ap (λ (k : Heap). let r : Result (Heap × X) DraftFault = Ok (k, a) in r) (sym (q ∙ spliced_elements h of from to vs s w.object w.list))

-- ---- elements
pub long_elements : (t : Rows) (n : ℕ) → n ≡ length t → n ≡ length (elements t)
long_elements t n p = p ∙ sym (length-map t (λ e. e.1))

pub value_element : (t : Rows) (i : ℕ) → value_at i t ≡ slice_get (elements t) i
value_element t i = sym (slice_get-map (λ e. e.1) t i)

module _ {X : Type 0} where
  pub splice_end : (xs vs : List X) (n : ℕ) → n ≡ length xs → list.splice xs n n vs ≡ xs ++ vs
  splice_end xs vs n p = rw p (rw (take-length xs, drop-length xs, append-nil vs) refl)

  pub splice_last : (xs : List X) (k n : ℕ) → n ≡ length xs → list.splice xs k n [] ≡ take k xs
  splice_last xs k n p = rw p (rw (drop-length xs) (append-nil (take k xs)))

  pub splice_first : (xs : List X) → list.splice xs 0 (min 1 (length xs)) [] ≡ drop 1 xs
  splice_first [] = refl
  splice_first (x ∷ xs) = let one : min 1 (suc (length xs)) ≡ 1 = omega arith in rw one refl

  pub splice_all : (xs vs : List X) (n : ℕ) → n ≡ length xs → list.splice xs 0 n vs ≡ vs
  splice_all xs vs n p = rw p (rw (drop-length xs) (append-nil vs))

  pub range_all : (xs : List X) (n : ℕ) → n ≡ length xs → slice_range xs 0 n ≡ xs
  range_all xs n p = let all : n - 0 ≡ length xs = omega (arith, p) in rw all (take-length xs)

  pub range_end : (xs : List X) (i to : ℕ) → to ≤ i → slice_range xs i to ≡ []
  range_end xs i to h = let z : to - i ≡ 0 = omega arith in rw z refl

  pub range_step : (xs : List X) (i to : ℕ) (x : X) → slice_get xs i ≡ Some x → i < to → slice_range xs i to ≡ x ∷ slice_range xs (i + 1) to
  range_step [] i to x p h = absurd (cc)
  range_step (y ∷ xs) zero zero x p h = absurd (omega arith)
  range_step (y ∷ xs) zero (suc to) x p h =
      let same : y ≡ x = cc in
      let none : suc to - 0 ≡ suc to = omega arith in
      let less : suc to - 1 ≡ to = omega arith in
      rw (none, less) (ap (λ (z : X). z ∷ take to xs) same)
  range_step (y ∷ xs) (suc i) zero x p h = absurd (omega arith)
  range_step (y ∷ xs) (suc i) (suc to) x p h =
      let left : suc to - suc i ≡ to - i = omega arith in
      let right : suc to - (suc i + 1) ≡ to - (i + 1) = omega arith in
      let next : suc i + 1 ≡ suc (i + 1) = omega arith in
      rw (left, right, next) (range_step xs i to x p (omega arith))

-- values behind values that may be stored
pub stored_more : (h : Heap) (vs : List Rv) (v : Rv) → AllStored h vs → IsStored h v → AllStored h (vs ++ v ∷ [])
stored_more h [] v a s = (s, tt)
stored_more h (w ∷ vs) v a s = (a.0, stored_more h vs v a.1 s)

stored_onto : (h : Heap) (vs ws : List Rv) → AllStored h vs → AllStored h ws → AllStored h (reverse_aux vs ws)
stored_onto h [] ws a b = b
stored_onto h (v ∷ vs) ws a b = stored_onto h vs (v ∷ ws) a.1 (a.0, b)

pub stored_reverse : (h : Heap) (vs : List Rv) → AllStored h vs → AllStored h (reverse vs)
stored_reverse h vs a = stored_onto h vs [] a tt

-- ---- indexes
pub relative_back : (z : ℤ) (n d : ℕ) → z <ℤ pos 0 → d ≡ unsigned_abs z → n - d ≡ relative z n
relative_back (pos i) n d l p = absurd (grind (arith, l))
relative_back (negsuc i) n d l p = let e : d ≡ i + 1 = omega (arith, p) in ap (λ m. n - m) e

pub relative_on : (z : ℤ) (n d : ℕ) → pos 0 ≤ℤ z → d ≡ unsigned_abs z → min d n ≡ relative z n
relative_on (pos i) n d l p = ap (λ m. min m n) p
relative_on (negsuc i) n d l p = absurd (grind (arith, l))

-- one more element of a range
pub one_more : (xs out more : List Rv) (from i to : ℕ) (v : Rv) → out ++ slice_range xs i to ≡ slice_range xs from to → slice_get xs i ≡ Some v → i < to → more ≡ out ++ v ∷ [] → more ++ slice_range xs (i + 1) to ≡ slice_range xs from to
one_more xs out more from i to v p q l r =
    rw r (append_assoc out (v ∷ []) (slice_range xs (i + 1) to) ∙ ap (λ ys. out ++ ys) (sym (range_step xs i to v q l)) ∙ p)

-- ---- each call as a range that is replaced
module _ (xs vs : List Rv) (n : ℕ) (long : n ≡ length xs) where
  pub pushed_at : list_any is_undefined vs ≡ false → pushed vs xs ≡ Ok (list.splice xs n n vs, n + length vs)
  pushed_at p = rw p (λ i. Ok (sym (splice_end xs vs n long) i, sym long i + length vs))

  pub unshifted_at : list_any is_undefined vs ≡ false → unshifted vs xs ≡ Ok (list.splice xs 0 0 vs, n + length vs)
  unshifted_at p = rw p (λ i. Ok (vs ++ xs, sym long i + length vs))

module _ (xs : List Rv) (n : ℕ) (long : n ≡ length xs) where
  pub popped_at : (from : ℕ) (v : Rv) → from ≡ n - 1 → v ≡ or_undefined (slice_get xs from) → popped xs ≡ Ok (list.splice xs from n [], v)
  popped_at from v p q =
      let last : length xs - 1 ≡ from = ap (λ m. m - 1) (sym long) ∙ sym p in
      rw last (λ i. Ok (sym (splice_last xs from n long) i, sym q i))

  pub shifted_at : (m : ℕ) (v : Rv) → m ≡ min n 1 → v ≡ or_undefined (slice_get xs 0) → shifted xs ≡ Ok (list.splice xs 0 m [], v)
  shifted_at m v p q =
      let first : m ≡ min 1 (length xs) = omega (arith, p, long) in
      rw first (λ i. Ok (sym (splice_first xs) i, sym q i))

  pub turned_at : (vs : List Rv) → vs ≡ reverse xs → turned xs ≡ Ok (list.splice xs 0 n vs, tt)
  turned_at vs p = λ i. Ok ((sym p ∙ sym (splice_all xs vs n long)) i, tt)

  pub cut_ok : (z : ℤ) (k : ℕ) → is_past z n ≡ false → k ≡ natural z → cut_to z xs ≡ Ok (list.splice xs k n [], tt)
  cut_ok z k p q =
      let inside : is_past z (length xs) ≡ false = ap (is_past z) (sym long) ∙ p in
      rw inside (λ i. Ok ((ap (λ m. take m xs) (sym q) ∙ sym (splice_last xs k n long)) i, tt))

  pub cut_refused : (z : ℤ) → is_past z n ≡ true → cut_to z xs ≡ Err fault.Hole
  cut_refused z p = let past : is_past z (length xs) ≡ true = ap (is_past z) (sym long) ∙ p in rw past refl

-- ---- `splice`
same_next : (f : Rows → Rows) (h : Heap) (of : Rv) (s : Option Content) → next_object (rewrite_shown f h of s) ≡ next_object h
same_next f h of None = refl
same_next f h Undefined (Some c) = refl
same_next f h (Prim k) (Some c) = refl
same_next f h (Obj r) (Some c) = refl
same_next f h (Frozen id) (Some c) = refl

module _ (start : ℤ) (count : Option ℤ) (vs : List Rv) (h : Heap) (of : Rv) where
  pub splice_refused : (e : DraftFault) → writable h of vs ≡ Err e → splice start count vs h of ≡ Err e
  splice_refused e p = ap answer_list (row_refused (spliced_at start count vs) h of vs e p)

  pub splice_undefined : (n : ℕ) → IsWritable h of vs n → list_any is_undefined vs ≡ true → splice start count vs h of ≡ Err fault.UndefinedWrite
  splice_undefined n w p = ap answer_list (row_stopped (spliced_at start count vs) h of vs (elements_of h of) fault.UndefinedWrite w.found (rw p refl))

  spliced_as : (xs : List Rv) (n from to : ℕ) (gone : List Rv) → n ≡ length xs → from ≡ relative start n → to ≡ from + removed count (n - from) → list_any is_undefined vs ≡ false → gone ≡ slice_range xs from to → spliced_at start count vs xs ≡ Ok (list.splice xs from to vs, gone)
  spliced_as xs n from to gone long p q u r =
      let first : relative start (length xs) ≡ from = ap (relative start) (sym long) ∙ sym p in
      let last : from + removed count (length xs - from) ≡ to = ap (λ m. from + removed count (m - from)) (sym long) ∙ sym q in
      rw (first, last, u) (λ i. Ok (list.splice xs from to vs, sym r i))

  pub splice_row : (g : Heap) (n from to : ℕ) (gone : List Rv) → IsSound h → IsWritable h of vs n → from ≡ relative start n → to ≡ from + removed count (n - from) → list_any is_undefined vs ≡ false → gone ≡ slice_range (elements_of h of) from to → g ≡ with_object (fresh kind.List (map item gone)) (splice_at from to vs h of) → splice start count vs h of ≡ Ok (g, next_object h)
  splice_row g n from to gone s w p q u r made =
      let xs = elements_of h of in
      let k = splice_at from to vs h of in
      let row = spliced_as xs n from to gone (long_elements (table_of h of) n w.long) p q u r in
      ap answer_list (row_spliced (spliced_at start count vs) h k of vs n from to vs gone s w row refl)
      ∙ (λ i. Ok (sym made i, same_next (spliced from to vs) h of (shown h of) i))

-- ---- `slice`
module _ (start : ℤ) (end : Option ℤ) (h : Heap) (of : Rv) where
  pub slice_refused : (e : DraftFault) → readable h of [] ≡ Err e → slice start end h of ≡ Err e
  slice_refused e p = ap (then_list h) (read_refused (λ xs. items (sliced start end xs)) h of [] e p)

  pub slice_row : (g : Heap) (n from to : ℕ) (vs : List Rv) → IsReadable h of [] n → from ≡ relative start n → to ≡ end_at end n → vs ≡ slice_range (elements_of h of) from to → g ≡ with_object (fresh kind.List (map item vs)) h → slice start end h of ≡ Ok (g, next_object h)
  slice_row g n from to vs w p q r made =
      let xs = elements_of h of in
      let long : length xs ≡ n = sym (long_elements (table_of h of) n w.long) in
      let first : relative start (length xs) ≡ from = ap (relative start) long ∙ sym p in
      let last : end_at end (length xs) ≡ to = ap (end_at end) long ∙ sym q in
      let range : sliced start end xs ≡ vs = (λ i. slice_range xs (first i) (last i)) ∙ sym r in
      ap (then_list h) (read_done (λ ys. items (sliced start end ys)) h of [] xs w.found)
      ∙ (λ i. Ok (with_object (fresh kind.List (items (range i))) h, next_object h))
      ∙ (λ i. Ok (sym made i, next_object h))

-- ---- searching
module _ (v : Rv) where
  pub not_here : (xs : List Rv) (i : ℕ) (x : Rv) → slice_get xs i ≡ Some x → same x v ≡ false → position_or_len (λ y. same y v) (drop i xs) ≡ 1 + position_or_len (λ y. same y v) (drop (i + 1) xs)
  not_here [] i x p q = absurd (cc)
  not_here (y ∷ xs) zero x p q = let here : same y v ≡ false = ap (λ z. same z v) (let e : y ≡ x = cc in e) ∙ q in rw here refl
  not_here (y ∷ xs) (suc i) x p q = let next : suc i + 1 ≡ suc (i + 1) = omega arith in rw next (not_here xs i x p q)

  pub here : (xs : List Rv) (i : ℕ) (x : Rv) → slice_get xs i ≡ Some x → same x v ≡ true → position_or_len (λ y. same y v) (drop i xs) ≡ 0
  here [] i x p q = absurd (cc)
  here (y ∷ xs) zero x p q = let at : same y v ≡ true = ap (λ z. same z v) (let e : y ≡ x = cc in e) ∙ q in rw at refl
  here (y ∷ xs) (suc i) x p q = here xs i x p q

  pub found_at : (xs : List Rv) (i : ℕ) → i ≡ position_or_len (λ y. same y v) xs → i < length xs → Some i ≡ position (λ y. same y v) xs
  found_at xs i p l =
      let at : position_or_len (λ y. same y v) xs ≡ i = sym p in
      let inside : nat_lt i (length xs) ≡ true = grind (arith, l) in
      rw (at, inside) refl

  pub found_none : (xs : List Rv) → length xs ≤ position_or_len (λ y. same y v) xs → None ≡ position (λ y. same y v) xs
  found_none xs l = let outside : nat_lt (position_or_len (λ y. same y v) xs) (length xs) ≡ false = grind (arith, l) in rw outside refl

  next_lt : (m n : ℕ) → nat_lt m n ≡ nat_lt (1 + m) (suc n)
  next_lt m n = elim (nat_lt m n) as (λ b. nat_lt m n ≡ b → b ≡ nat_lt (1 + m) (suc n)) [
    | true ↦ λ p. grind (arith, p)
    | false ↦ λ p. grind (arith, p)
  ] refl

  any_lt : (xs : List Rv) → list_any (λ y. same y v) xs ≡ nat_lt (position_or_len (λ y. same y v) xs) (length xs)
  any_lt [] = refl
  any_lt (y ∷ xs) = elim (same y v) as (λ b. same y v ≡ b → list_any (λ z. same z v) (y ∷ xs) ≡ nat_lt (position_or_len (λ z. same z v) (y ∷ xs)) (length (y ∷ xs))) [
    | true ↦ λ p. rw p (let yes : nat_lt 0 (suc (length xs)) ≡ true = grind arith in sym yes)
    | false ↦ λ p. rw p (any_lt xs ∙ next_lt (position_or_len (λ z. same z v) xs) (length xs))
  ] refl

  some_if : (b : Bool) (n : ℕ) → is_some (cond b (let o : Option ℕ = Some n in o) None) ≡ b
  some_if true n = refl
  some_if false n = refl

  any_found : (xs : List Rv) → list_any (λ y. same y v) xs ≡ is_some (position (λ y. same y v) xs)
  any_found xs = any_lt xs ∙ sym (some_if (nat_lt (position_or_len (λ y. same y v) xs) (length xs)) (position_or_len (λ y. same y v) xs))

-- the value at an index, of which it is known whether it is the same as another
at_same : (t : Rows) (i : ℕ) (v : Rv) (b : Bool) → i < length t → IfSome (value_at i t) (λ x. b ≡ same x v) → (x : Rv) × (slice_get (elements t) i ≡ Some x) × (b ≡ same x v)
at_same [] i v b l p = absurd (omega arith)
at_same (e ∷ t) zero v b l p = (e.1, refl, p)
at_same (e ∷ t) (suc i) v b l p = at_same t i v b (omega arith) p

module _ (v : Rv) (t : Rows) (i n : ℕ) (b : Bool) (long : n ≡ length t) (l : i < n) (seen : IfSome (value_at i t) (λ x. b ≡ same x v)) (left : i + position_or_len (λ x. same x v) (drop i (elements t)) ≡ position_or_len (λ x. same x v) (elements t)) where
  pub search_found : b ≡ true → Some i ≡ position (λ x. same x v) (elements t)
  search_found p =
      let s = at_same t i v b (omega (arith, long, l)) seen in
      let none_before = here v (elements t) i s.0 s.1 (sym s.2 ∙ p) in
      found_at v (elements t) i (omega (arith, none_before, left)) (let m = long_elements t n long in omega (arith, m, l))

  pub search_on : b ≡ false → i + 1 + position_or_len (λ x. same x v) (drop (i + 1) (elements t)) ≡ position_or_len (λ x. same x v) (elements t)
  search_on p =
      let s = at_same t i v b (omega (arith, long, l)) seen in
      let one_less = not_here v (elements t) i s.0 s.1 (sym s.2 ∙ p) in
      omega (arith, one_less, left)

module _ (v : Rv) (h : Heap) (of : Rv) where
  pub index_refused : (e : DraftFault) → readable h of (v ∷ []) ≡ Err e → index_of v h of ≡ Err e
  index_refused e p = read_refused (λ xs. index_or (position (λ x. same x v) xs)) h of (v ∷ []) e p

  pub includes_refused : (e : DraftFault) → readable h of (v ∷ []) ≡ Err e → includes v h of ≡ Err e
  includes_refused e p = read_refused (λ xs. list_any (λ x. same x v) xs) h of (v ∷ []) e p

  pub index_row : (n : ℕ) (r : Option ℕ) → IsReadable h of (v ∷ []) n → r ≡ position (λ x. same x v) (elements_of h of) → index_of v h of ≡ Ok (index_or r)
  index_row n r w p = read_done (λ xs. index_or (position (λ x. same x v) xs)) h of (v ∷ []) (elements_of h of) w.found ∙ (λ i. Ok (index_or (sym p i)))

  pub includes_row : (n : ℕ) (r : Option ℕ) → IsReadable h of (v ∷ []) n → r ≡ position (λ x. same x v) (elements_of h of) → includes v h of ≡ Ok (is_some r)
  includes_row n r w p = read_done (λ xs. list_any (λ x. same x v) xs) h of (v ∷ []) (elements_of h of) w.found ∙ (λ i. Ok ((any_found v (elements_of h of) ∙ ap is_some (sym p)) i))

-- ---- what is answered is a value of the heap that is left
pub fits_on : (g h : Heap) (v : Rv) → Grows g h → Fits g v → Fits h v
fits_on g h Undefined w f = tt
fits_on g h (Prim k) w f = tt
fits_on g h (Obj r) w f = let more = w.more in let low = f.1 in (f.0 ∙ sym w.scope, omega (arith, more, low))
fits_on g h (Frozen id) w f = subst (λ (ts : List Tree). IsNumber ts id) (sym w.states) f
