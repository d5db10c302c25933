-- Tables that objects may have, after an entry is set or removed, and after elements are replaced: laws.
use Rattle.std.proofs.Common.{◌≡◌, ℕ, zero, suc, List, [], ◌∷◌, ◌++◌, length, map, take, drop, refl, sym, subst, Bool, true, false, not, cond, Less, Equal, Greater}
use Rattle.std.specs.Prelude.{◌==◌, slice_set, if◌then◌else◌}
use Rattle.std.specs.FinMap.Entries.{put, where_key, is_sorted, by_order, is_sorted-put, is_sorted-where_key}
use Rattle.std.specs.Ordering.{eq_by_cmp}
use Rattle.std.proofs.lemmas.Bool.{and_from}
use lib.Dec.{T}
use Rattle.value_model.specs.declared.key.Key.{Key}
use Rattle.value_model.specs.declared.kind.Kind.{Kind}
use Rattle.value_model.specs.declared.kind.Kind.TheVariants as kind
use Rattle.value_model.specs.Order.{key_cmp, key_total, key_exact}
use Rattle.value_model.specs.Search.{left_true, right_true}
use Rattle.run_heap.specs.declared.value.Rv.{Rv}
use Rattle.run_heap.specs.Heap.{Heap}
use Rattle.run_heap.specs.Operations.{Rows, item, without, set_element, spliced}
use Rattle.run_heap.specs.Sound.{IsStored, AllStored, RowsStored, may_stand, all_stand, ascends, IsTable}

true_from_T : (b : Bool) → T b → b ≡ true
true_from_T true h = refl
true_from_T false h = absurd h

-- ---- an entry set
stand_put : (of : Kind) (k : Key) (v : Rv) (t : Rows) → may_stand of k v ≡ true → all_stand of t ≡ true → all_stand of (put key_cmp k v t) ≡ true
stand_put of k v [] m s = and_from _ true m refl
stand_put of k v (e ∷ t) m s = elim (key_cmp k e.0) as (λ o. key_cmp k e.0 ≡ o → all_stand of (by_order o ((k, v) ∷ e ∷ t) ((e.0, v) ∷ t) (e ∷ put key_cmp k v t)) ≡ true) [
  | Less ↦ λ p. and_from _ _ m s
  | Equal ↦ λ p. and_from _ _ (subst (λ (j : Key). may_stand of j v ≡ true) (key_exact k e.0 p) m) (right_true _ _ s)
  | Greater ↦ λ p. and_from _ _ (left_true _ _ s) (stand_put of k v t m (right_true _ _ s))
] refl

rows_put : (h : Heap) (k : Key) (v : Rv) (t : Rows) → IsStored h v → RowsStored h t → RowsStored h (put key_cmp k v t)
rows_put h k v [] a s = (a, tt)
rows_put h k v (e ∷ t) a s = elim (key_cmp k e.0) as (λ o. RowsStored h (by_order o ((k, v) ∷ e ∷ t) ((e.0, v) ∷ t) (e ∷ put key_cmp k v t))) [
  | Less ↦ (a, s)
  | Equal ↦ (a, s.1)
  | Greater ↦ (s.0, rows_put h k v t a s.1)
]

sorted_put : (k : Key) (v : Rv) (t : Rows) → is_sorted key_cmp t ≡ true → is_sorted key_cmp (put key_cmp k v t) ≡ true
sorted_put k v t h = true_from_T _ (is_sorted-put key_cmp key_total k v t (subst T (sym h) tt))

ascends_put : (of : Kind) (k : Key) (v : Rv) (t : Rows) → ascends of t ≡ true → ascends of (put key_cmp k v t) ≡ true
ascends_put kind.List k v t h = refl
ascends_put kind.Obj k v t h = sorted_put k v t h
ascends_put kind.Map k v t h = sorted_put k v t h
ascends_put kind.Set k v t h = sorted_put k v t h

pub put_table : (h : Heap) (of : Kind) (k : Key) (v : Rv) (t : Rows) → may_stand of k v ≡ true → IsStored h v → IsTable h of t → IsTable h of (put key_cmp k v t)
put_table h of k v t m a s = record { ascends = ascends_put of k v t s.ascends; stand = stand_put of k v t m s.stand; stored = rows_put h k v t a s.stored }

-- ---- an entry removed
stand_where : (of : Kind) (p : Key → Bool) (t : Rows) → all_stand of t ≡ true → all_stand of (where_key key_cmp p t) ≡ true
stand_where of p [] s = refl
stand_where of p (e ∷ t) s = elim (p e.0) as (λ b. all_stand of (cond b (e ∷ where_key key_cmp p t) (where_key key_cmp p t)) ≡ true) [
  | true ↦ and_from _ _ (left_true _ _ s) (stand_where of p t (right_true _ _ s))
  | false ↦ stand_where of p t (right_true _ _ s)
]

rows_where : (h : Heap) (p : Key → Bool) (t : Rows) → RowsStored h t → RowsStored h (where_key key_cmp p t)
rows_where h p [] s = tt
rows_where h p (e ∷ t) s = elim (p e.0) as (λ b. RowsStored h (cond b (e ∷ where_key key_cmp p t) (where_key key_cmp p t))) [
  | true ↦ (s.0, rows_where h p t s.1)
  | false ↦ rows_where h p t s.1
]

sorted_where : (p : Key → Bool) (t : Rows) → is_sorted key_cmp t ≡ true → is_sorted key_cmp (where_key key_cmp p t) ≡ true
sorted_where p t h = true_from_T _ (is_sorted-where_key key_cmp p t (subst T (sym h) tt))

ascends_where : (of : Kind) (p : Key → Bool) (t : Rows) → ascends of t ≡ true → ascends of (where_key key_cmp p t) ≡ true
ascends_where kind.List p t h = refl
ascends_where kind.Obj p t h = sorted_where p t h
ascends_where kind.Map p t h = sorted_where p t h
ascends_where kind.Set p t h = sorted_where p t h

pub without_table : (h : Heap) (of : Kind) (k : Key) (t : Rows) → IsTable h of t → IsTable h of (without k t)
without_table h of k t s =
    let p : Key → Bool = λ j. not (eq_by_cmp key_cmp k j) in
    record { ascends = ascends_where of p t s.ascends; stand = stand_where of p t s.stand; stored = rows_where h p t s.stored }

-- ---- elements replaced
stand_append : (of : Kind) (t u : Rows) → all_stand of t ≡ true → all_stand of u ≡ true → all_stand of (t ++ u) ≡ true
stand_append of [] u a b = b
stand_append of (e ∷ t) u a b = and_from _ _ (left_true _ _ a) (stand_append of t u (right_true _ _ a) b)

stand_take : (of : Kind) (n : ℕ) (t : Rows) → all_stand of t ≡ true → all_stand of (take n t) ≡ true
stand_take of zero t a = refl
stand_take of (suc n) [] a = refl
stand_take of (suc n) (e ∷ t) a = and_from _ _ (left_true _ _ a) (stand_take of n t (right_true _ _ a))

stand_drop : (of : Kind) (n : ℕ) (t : Rows) → all_stand of t ≡ true → all_stand of (drop n t) ≡ true
stand_drop of zero t a = a
stand_drop of (suc n) [] a = refl
stand_drop of (suc n) (e ∷ t) a = stand_drop of n t (right_true _ _ a)

pub stand_items : (vs : List Rv) → all_stand kind.List (map item vs) ≡ true
stand_items [] = refl
stand_items (v ∷ vs) = stand_items vs

rows_append : (h : Heap) (t u : Rows) → RowsStored h t → RowsStored h u → RowsStored h (t ++ u)
rows_append h [] u a b = b
rows_append h (e ∷ t) u a b = (a.0, rows_append h t u a.1 b)

rows_take : (h : Heap) (n : ℕ) (t : Rows) → RowsStored h t → RowsStored h (take n t)
rows_take h zero t a = tt
rows_take h (suc n) [] a = tt
rows_take h (suc n) (e ∷ t) a = (a.0, rows_take h n t a.1)

rows_drop : (h : Heap) (n : ℕ) (t : Rows) → RowsStored h t → RowsStored h (drop n t)
rows_drop h zero t a = a
rows_drop h (suc n) [] a = tt
rows_drop h (suc n) (e ∷ t) a = rows_drop h n t a.1

pub rows_items : (h : Heap) (vs : List Rv) → AllStored h vs → RowsStored h (map item vs)
rows_items h [] a = tt
rows_items h (v ∷ vs) a = (a.0, rows_items h vs a.1)

pub splice_table : (h : Heap) (from to : ℕ) (vs : List Rv) (t : Rows) → AllStored h vs → IsTable h kind.List t → IsTable h kind.List (spliced from to vs t)
splice_table h from to vs t a s = record {
  ascends = refl;
  stand = stand_append kind.List (take from t) (map item vs ++ drop to t) (stand_take kind.List from t s.stand) (stand_append kind.List (map item vs) (drop to t) (stand_items vs) (stand_drop kind.List to t s.stand));
  stored = rows_append h (take from t) (map item vs ++ drop to t) (rows_take h from t s.stored) (rows_append h (map item vs) (drop to t) (rows_items h vs a) (rows_drop h to t s.stored));
}

-- ---- an element set or added
element_stand : (i : ℕ) (v : Rv) (t : Rows) → all_stand kind.List t ≡ true → all_stand kind.List (slice_set t i (item v)) ≡ true
element_stand i v [] a = refl
element_stand zero v (e ∷ t) a = right_true _ _ a
element_stand (suc i) v (e ∷ t) a = and_from _ _ (left_true _ _ a) (element_stand i v t (right_true _ _ a))

element_rows : (h : Heap) (i : ℕ) (v : Rv) (t : Rows) → IsStored h v → RowsStored h t → RowsStored h (slice_set t i (item v))
element_rows h i v [] a s = tt
element_rows h zero v (e ∷ t) a s = (a, s.1)
element_rows h (suc i) v (e ∷ t) a s = (s.0, element_rows h i v t a s.1)

pub element_table : (h : Heap) (i : ℕ) (v : Rv) (t : Rows) → IsStored h v → IsTable h kind.List t → IsTable h kind.List (set_element i v t)
element_table h i v t a s = elim (i == length t) as (λ b. IsTable h kind.List (if b then t ++ item v ∷ [] else slice_set t i (item v))) [
  | true ↦ record { ascends = refl; stand = stand_append kind.List t (item v ∷ []) s.stand refl; stored = rows_append h t (item v ∷ []) s.stored (a, tt) }
  | false ↦ record { ascends = refl; stand = element_stand i v t s.stand; stored = element_rows h i v t a s.stored }
]
