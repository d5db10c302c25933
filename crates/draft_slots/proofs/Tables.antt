-- Tables in code: where a key is, and what changing an entry makes of the table: laws.
use Rattle.std.proofs.Common.{◌≡◌, ◌≢◌, ◌-◌, ℕ, zero, suc, ◌+◌, ◌<◌, ◌≤◌, List, [], ◌∷◌, ◌++◌, length, get_or, set, map, take, drop, refl, ap, sym, ◌∙◌, subst, arith, Bool, true, false, not, Less, Equal, Greater}
use Rattle.std.specs.Prelude.{◌&&◌, ◌==◌, Some, None, option_map, IsTrue, slice_range, MatchResult, Result, Ok, Err}
use Rattle.std.specs.Ordering.{is_eq, is_lt, ordering_reverse}
use Rattle.std.specs.List.{insert, remove}
use Rattle.std.specs.FinMap.Entries.{put, is_sorted, below_all}
use Rattle.std.proofs.lemmas.Cmp.{tied_itself}
use Rattle.std.proofs.Math.Seq.{drop-nil}
use Rattle.std.proofs.lemmas.Grind.{common_steps}
use Rattle.std.proofs.lemmas.List.{length-map, take-append-drop}
use Rattle.value_model.specs.declared.key.Key.{Key}
use Rattle.value_model.specs.declared.key.Key.TheVariants as key
use Rattle.value_model.specs.declared.kind.Kind.TheVariants as kind
use Rattle.value_model.specs.Order.{key_cmp, key_total, key_exact}
use Rattle.value_model.specs.Search.{Past, IsPlace, left_true, right_true, less_from_test}
use Rattle.run_heap.specs.declared.value.Rv.{Rv}
use Rattle.run_heap.specs.declared.value.Rv.TheVariants.{Undefined, Prim, Obj, Frozen}
use Rattle.run_heap.specs.Operations.{Rows, item, without, position, set_element, spliced}
use Rattle.run_heap.specs.Sound.{all_stand}
use Rattle.run_heap.specs.Values.{same, same_tables}
use Rattle.draft_slots.specs.Tables.{keyed, KeyAt}

below_keyed : (x : Key) (t : Rows) → below_all key_cmp x (map keyed t) ≡ below_all key_cmp x t
below_keyed x [] = refl
below_keyed x (e ∷ t) = ap (λ b. is_lt (key_cmp x e.0) && b) (below_keyed x t)

pub sorted_keyed : (t : Rows) → is_sorted key_cmp (map keyed t) ≡ is_sorted key_cmp t
sorted_keyed [] = refl
sorted_keyed (e ∷ t) = λ i. below_keyed e.0 t i && sorted_keyed t i

-- ---- what is the same
key_eq : (k : Key) → is_eq (key_cmp k k) ≡ true
key_eq k = rw (tied_itself key_total k) refl

nat_eq : (n : ℕ) → (n == n) ≡ true
nat_eq n = grind arith

pub same_refl : (v : Rv) → same v v ≡ true
same_refl Undefined = refl
same_refl (Prim k) = key_eq k
same_refl (Obj r) = rw (nat_eq r.scope, nat_eq r.slot) refl
same_refl (Frozen n) = nat_eq n

pub same_tables_refl : (t : Rows) → same_tables t t ≡ true
same_tables_refl [] = refl
same_tables_refl (e ∷ t) = rw (key_eq e.0, same_refl e.1) (same_tables_refl t)

pub and_true : (b : Bool) → (b && true) ≡ b
and_true true = refl
and_true false = refl

pub longer : (t : Rows) (e : Key × Rv) → same_tables t (t ++ e ∷ []) ≡ false
longer [] e = refl
longer (d ∷ t) e = rw (key_eq d.0, same_refl d.1) (longer t e)

pub same_set : (t : Rows) (i : ℕ) (d e : Key × Rv) → i < length t → e.0 ≡ (get_or t i d).0 → same_tables t (set t i e) ≡ same (get_or t i d).1 e.1
same_set [] i d e h q = absurd (omega arith)
same_set (x ∷ t) zero d e h q = rw (q, key_eq x.0, same_tables_refl t) (and_true (same x.1 e.1))
same_set (x ∷ t) (suc i) d e h q = rw (key_eq x.0, same_refl x.1) (same_set t i d e (omega arith) q)

module _ (k : Key) where
  tail_past : (x : Key × Rv) (t : Rows) (n : ℕ) → Past keyed k (suc n) (x ∷ t) → Past keyed k n t
  tail_past x t n p j d h = p (suc j) d (omega arith)

  -- ---- an entry set
  pub put_found : (t : Rows) (i : ℕ) (d e : Key × Rv) → Past keyed k i t → i < length t → key_cmp k (get_or t i d).0 ≡ Equal → e.0 ≡ (get_or t i d).0 → set t i e ≡ put key_cmp k e.1 t
  put_found [] i d e p h q r = absurd (omega arith)
  put_found (y ∷ t) zero d e p h q r = rw q (λ i. (r i, e.1) ∷ t)
  put_found (y ∷ t) (suc i) d e p h q r =
      let here = p 0 d (omega arith) in
      rw here (ap (λ (ys : Rows). y ∷ ys) (put_found t i d e (tail_past y t i p) (omega arith) q r))

  pub put_gap : (t : Rows) (i : ℕ) (d e : Key × Rv) → Past keyed k i t → i ≤ length t → (i < length t → key_cmp k (get_or t i d).0 ≡ Less) → e.0 ≡ k → insert t i e ≡ put key_cmp k e.1 t
  put_gap [] zero d e p h q r = λ i. (r i, e.1) ∷ []
  put_gap [] (suc i) d e p h q r = absurd (omega arith)
  put_gap (y ∷ t) zero d e p h q r = let less = q (omega arith) in rw less (λ i. (r i, e.1) ∷ y ∷ t)
  put_gap (y ∷ t) (suc i) d e p h q r =
      let here = p 0 d (omega arith) in
      rw here (ap (λ (ys : Rows). y ∷ ys) (put_gap t i d e (tail_past y t i p) (omega arith) (λ l. q (omega arith)) r))

  pub gap_differs : (t : Rows) (i : ℕ) (d e : Key × Rv) → Past keyed k i t → i ≤ length t → (i < length t → key_cmp k (get_or t i d).0 ≡ Less) → e.0 ≡ k → same_tables t (insert t i e) ≡ false
  gap_differs [] zero d e p h q r = refl
  gap_differs [] (suc i) d e p h q r = absurd (omega arith)
  gap_differs (y ∷ t) zero d e p h q r =
      let less = q (omega arith) in
      let back : key_cmp y.0 k ≡ Greater = key_total.antisymm y.0 k ∙ ap ordering_reverse less in
      rw (r, back) refl
  gap_differs (y ∷ t) (suc i) d e p h q r =
      rw (key_eq y.0, same_refl y.1) (gap_differs t i d e (tail_past y t i p) (omega arith) (λ l. q (omega arith)) r)

  -- ---- an entry removed
  none_below : (x : Key) (t : Rows) → key_cmp k x ≡ Less → below_all key_cmp x t ≡ true → without k t ≡ t
  none_below x [] p h = refl
  none_below x (e ∷ t) p h =
      let below : key_cmp k e.0 ≡ Less = key_total.trans k x e.0 p (less_from_test _ (left_true _ _ h)) in
      rw below (ap (λ (ys : Rows). e ∷ ys) (none_below x t p (right_true _ _ h)))

  pub absent_same : (t : Rows) (i : ℕ) (d : Key × Rv) → Past keyed k i t → i ≤ length t → (i < length t → key_cmp k (get_or t i d).0 ≡ Less) → IsTrue (is_sorted key_cmp t) → without k t ≡ t
  absent_same [] i d p h q s = refl
  absent_same (y ∷ t) zero d p h q s = let less = q (omega arith) in rw less (ap (λ (ys : Rows). y ∷ ys) (none_below y.0 t less (left_true _ _ s)))
  absent_same (y ∷ t) (suc i) d p h q s =
      let here = p 0 d (omega arith) in
      rw here (ap (λ (ys : Rows). y ∷ ys) (absent_same t i d (tail_past y t i p) (omega arith) (λ l. q (omega arith)) (right_true _ _ s)))

  without_above : (t : Rows) → below_all key_cmp k t ≡ true → without k t ≡ t
  without_above [] h = refl
  without_above (e ∷ t) h =
      let below : key_cmp k e.0 ≡ Less = less_from_test _ (left_true _ _ h) in
      rw below (ap (λ (ys : Rows). e ∷ ys) (without_above t (right_true _ _ h)))

  pub remove_found : (t : Rows) (i : ℕ) (d : Key × Rv) → Past keyed k i t → i < length t → key_cmp k (get_or t i d).0 ≡ Equal → IsTrue (is_sorted key_cmp t) → remove t i ≡ without k t
  remove_found [] i d p h e s = absurd (omega arith)
  remove_found (y ∷ t) zero d p h e s =
      let same : k ≡ y.0 = key_exact k y.0 e in
      let above : below_all key_cmp k t ≡ true = subst (λ (q : Key). below_all key_cmp q t ≡ true) (sym same) (left_true _ _ s) in
      rw e (sym (without_above t above))
  remove_found (y ∷ t) (suc i) d p h e s =
      let here = p 0 d (omega arith) in
      rw here (ap (λ (ys : Rows). y ∷ ys) (remove_found t i d (tail_past y t i p) (omega arith) e (right_true _ _ s)))

  -- ---- where a key is
  pub position_found : (t : Rows) (i : ℕ) (d : Key × Rv) → Past keyed k i t → i < length t → key_cmp k (get_or t i d).0 ≡ Equal → position k t ≡ Some i
  position_found [] i d p h e = absurd (omega arith)
  position_found (y ∷ t) zero d p h e = rw e refl
  position_found (y ∷ t) (suc i) d p h e = let here = p 0 d (omega arith) in rw here (ap (option_map suc) (position_found t i d (tail_past y t i p) (omega arith) e))

  not_below : (x : Key) (t : Rows) → key_cmp k x ≡ Less → below_all key_cmp x t ≡ true → position k t ≡ None
  not_below x [] p h = refl
  not_below x (e ∷ t) p h =
      let below : key_cmp k e.0 ≡ Less = key_total.trans k x e.0 p (less_from_test _ (left_true _ _ h)) in
      rw below (ap (option_map suc) (not_below x t p (right_true _ _ h)))

  pub position_absent : (t : Rows) (i : ℕ) (d : Key × Rv) → Past keyed k i t → i ≤ length t → (i < length t → key_cmp k (get_or t i d).0 ≡ Less) → IsTrue (is_sorted key_cmp t) → position k t ≡ None
  position_absent [] i d p h e s = refl
  position_absent (y ∷ t) zero d p h e s = let less = e (omega arith) in rw less (ap (option_map suc) (not_below y.0 t less (left_true _ _ s)))
  position_absent (y ∷ t) (suc i) d p h e s =
      let here = p 0 d (omega arith) in
      rw here (ap (option_map suc) (position_absent t i d (tail_past y t i p) (omega arith) (λ l. e (omega arith)) (right_true _ _ s)))

-- a table that lost an entry differs
shorter_length : (t u : Rows) → same_tables t u ≡ true → length u ≡ length t
shorter_length [] [] h = refl
shorter_length [] (e ∷ u) h = absurd (cc)
shorter_length (d ∷ t) [] h = absurd (cc)
shorter_length (d ∷ t) (e ∷ u) h = ap suc (shorter_length t u (right_true _ _ h))

pub other_length : (t u : Rows) → (length u ≡ length t → ⊥) → same_tables t u ≡ false
other_length t u other = elim (same_tables t u) as (λ b. same_tables t u ≡ b → b ≡ false) [
  | true ↦ λ p. absurd (other (shorter_length t u p))
  | false ↦ λ p. refl
] refl

-- ---- what the calls need, in one step
pub set_differs : (t : Rows) (i : ℕ) (d e : Key × Rv) → KeyAt e.0 i t → i < length t → not (same (get_or t i d).1 e.1) ≡ not (same_tables t (set t i e))
set_differs t i d e k h = ap not (sym (same_set t i d e h (sym (k d))))

pub place_key : (k : Key) (t : Rows) (i : ℕ) → IsPlace keyed k t (Ok i) → KeyAt k i t
place_key k t i p d = sym (key_exact k (get_or t i d).0 (p.same d))

pub set_in_place : (k : Key) (v : Rv) (t : Rows) (i : ℕ) → IsPlace keyed k t (Ok i) → set t i (k, v) ≡ put key_cmp k v t
set_in_place k v t i p = let e : Key × Rv = (k, v) in put_found k t i e e p.past p.in_range (p.same e) (key_exact k (get_or t i e).0 (p.same e))

pub insert_in_place : (k : Key) (v : Rv) (t : Rows) (i : ℕ) → IsPlace keyed k t (Err i) → insert t i (k, v) ≡ put key_cmp k v t
insert_in_place k v t i p = let e : Key × Rv = (k, v) in put_gap k t i e e p.past p.in_range (p.above e) refl

pub inserted_differs : (k : Key) (v : Rv) (t : Rows) (i : ℕ) → IsPlace keyed k t (Err i) → true ≡ not (same_tables t (put key_cmp k v t))
inserted_differs k v t i p =
    let e : Key × Rv = (k, v) in
    ap not (sym (gap_differs k t i e e p.past p.in_range (p.above e) refl) ∙ ap (same_tables t) (insert_in_place k v t i p))

pub set_leaves : (k : Key) (v : Rv) (t u : Rows) (i : ℕ) (b : Bool) → IsPlace keyed k t (Ok i) → u ≡ set t i (k, v) → b ≡ not (same_tables t (set t i (k, v))) → (u ≡ put key_cmp k v t) × (b ≡ not (same_tables t (put key_cmp k v t)))
set_leaves k v t u i b p q r = (q ∙ set_in_place k v t i p, r ∙ ap (λ (w : Rows). not (same_tables t w)) (set_in_place k v t i p))

pub insert_leaves : (k : Key) (v : Rv) (t u : Rows) (i : ℕ) → IsPlace keyed k t (Err i) → u ≡ insert t i (k, v) → (u ≡ put key_cmp k v t) × (true ≡ not (same_tables t (put key_cmp k v t)))
insert_leaves k v t u i p q = (q ∙ insert_in_place k v t i p, inserted_differs k v t i p)

pub remove_in_place : (k : Key) (t : Rows) (i : ℕ) (d : Key × Rv) → IsPlace keyed k t (Ok i) → IsTrue (is_sorted key_cmp t) → remove t i ≡ without k t
remove_in_place k t i d p s = remove_found k t i d p.past p.in_range (p.same d) s

remove_length : (t : Rows) (i : ℕ) → i < length t → length (remove t i) + 1 ≡ length t
remove_length [] i h = absurd (omega arith)
remove_length (e ∷ t) zero h = omega arith
remove_length (e ∷ t) (suc i) h = omega (arith, remove_length t i (omega arith))

pub removed_differs : (k : Key) (t : Rows) (i : ℕ) (d : Key × Rv) → IsPlace keyed k t (Ok i) → IsTrue (is_sorted key_cmp t) → true ≡ not (same_tables t (without k t))
removed_differs k t i d p s =
    let gone = remove_in_place k t i d p s in
    let l = remove_length t i p.in_range in
    ap not (sym (other_length t (remove t i) (λ q. absurd (omega (arith, l, q)))) ∙ ap (same_tables t) gone)

pub absent_leaves : (k : Key) (t : Rows) (i : ℕ) (d : Key × Rv) → IsPlace keyed k t (Err i) → IsTrue (is_sorted key_cmp t) → without k t ≡ t
absent_leaves k t i d p s = absent_same k t i d p.past p.in_range (p.above d) s

pub absent_same_tables : (k : Key) (t : Rows) → without k t ≡ t → false ≡ not (same_tables t (without k t))
absent_same_tables k t e = ap not (sym (same_tables_refl t) ∙ ap (same_tables t) (sym e))

-- ---- where a key is
pub position_at : (k : Key) (t : Rows) (r : Result ℕ ℕ) (d : Key × Rv) → IsTrue (is_sorted key_cmp t) → IsPlace keyed k t r → MatchResult r (λ i. position k t ≡ Some i) (λ i. position k t ≡ None)
position_at k t (Ok i) d s p = position_found k t i d p.past p.in_range (p.same d)
position_at k t (Err i) d s p = position_absent k t i d p.past p.in_range (p.above d) s

-- ---- elements of a list
pub items_length : (t : Rows) (vs : List Rv) → length t ≢ length vs → false ≡ same_tables t (map item vs)
items_length t vs other = sym (other_length t (map item vs) (λ q. absurd (let l = length-map vs item in omega (arith, other, q, l))))

pub element_key : (t : Rows) (i : ℕ) → IsTrue (all_stand kind.List t) → i < length t → KeyAt key.Null i t
element_key [] i s h d = absurd (omega arith)
element_key ((key.Null, v) ∷ t) zero s h d = refl
element_key ((key.Null, v) ∷ t) (suc i) s h d = element_key t i s (omega arith) d
element_key ((key.Bool b, v) ∷ t) i s h d = absurd (cc)
element_key ((key.Int n, v) ∷ t) i s h d = absurd (cc)
element_key ((key.Text b, v) ∷ t) i s h d = absurd (cc)

pub appended : (t u : Rows) (i : ℕ) (v : Rv) → i ≡ length t → u ≡ t ++ item v ∷ [] → (u ≡ set_element i v t) × (true ≡ not (same_tables t (set_element i v t)))
appended t u i v q e =
    let yes : (i == length t) ≡ true = grind (arith, q) in
    rw yes (e, ap not (sym (longer t (item v))))

pub element_leaves : (t u : Rows) (i : ℕ) (v : Rv) (b : Bool) → i ≢ length t → u ≡ set t i (item v) → b ≡ not (same_tables t (set t i (item v))) → (u ≡ set_element i v t) × (b ≡ not (same_tables t (set_element i v t)))
element_leaves t u i v b q e d = let no : (i == length t) ≡ false = grind (arith, q) in rw no (e, d)

same_front : (a b c : Rows) → same_tables (a ++ b) (a ++ c) ≡ same_tables b c
same_front [] b c = refl
same_front (e ∷ a) b c = rw (key_eq e.0, same_refl e.1) (same_front a b c)

and_assoc : (a b c : Bool) → (a && (b && c)) ≡ ((a && b) && c)
and_assoc true b c = refl
and_assoc false b c = refl

same_back : (a b c : Rows) → length a ≡ length b → same_tables (a ++ c) (b ++ c) ≡ same_tables a b
same_back [] [] c h = same_tables_refl c
same_back [] (e ∷ b) c h = absurd (omega arith)
same_back (d ∷ a) [] c h = absurd (omega arith)
same_back (d ∷ a) (e ∷ b) c h = ap (λ (x : Bool). is_eq (key_cmp d.0 e.0) && same d.1 e.1 && x) (same_back a b c (omega arith))

drop_more : {X : Type 0} (from k : ℕ) (t : List X) → drop k (drop from t) ≡ drop (from + k) t
drop_more zero k t = let z : 0 + k ≡ k = omega arith in rw z refl
drop_more (suc n) k [] = drop-nil k ∙ sym (drop-nil (suc n + k))
drop_more (suc n) k (e ∷ t) = let s : suc n + k ≡ suc (n + k) = omega arith in rw s (drop_more n k t)

split_range : (t : Rows) (from to : ℕ) → from ≤ to → to ≤ length t → take from t ++ (slice_range t from to ++ drop to t) ≡ t
split_range t from to a b =
    let n : from + (to - from) ≡ to = omega (arith, a) in
    let rest : drop to t ≡ drop (to - from) (drop from t) = sym (drop_more from (to - from) t ∙ ap (λ (k : ℕ). drop k t) n) in
    ap (λ (u : Rows). take from t ++ (slice_range t from to ++ u)) rest ∙ ap (λ (u : Rows). take from t ++ u) (take-append-drop (to - from) (drop from t)) ∙ take-append-drop from t

range_length : (t r ys : Rows) (from to : ℕ) → from ≤ to → to ≤ length t → length (take from t ++ (ys ++ drop to t)) ≡ length t → length (slice_range t from to) ≡ length ys
range_length t r ys from to a b q = grind (arith, common_steps, a, b, q)

-- a range replaced differs where the range does
pub spliced_differs : (t : Rows) (from to : ℕ) (vs : List Rv) → from ≤ to → to ≤ length t → same_tables t (spliced from to vs t) ≡ same_tables (slice_range t from to) (map item vs)
spliced_differs t from to vs a b =
    let r = slice_range t from to in
    let ys = map item vs in
    let whole : t ≡ take from t ++ (r ++ drop to t) = sym (split_range t from to a b) in
    elim (length r == length ys) as (λ x. (length r == length ys) ≡ x → same_tables t (take from t ++ (ys ++ drop to t)) ≡ same_tables r ys) [
      | true ↦ λ p. let l : length r ≡ length ys = grind (arith, p) in
          ap (λ (u : Rows). same_tables u (take from t ++ (ys ++ drop to t))) whole ∙ same_front (take from t) (r ++ drop to t) (ys ++ drop to t) ∙ same_back r ys (drop to t) l
      | false ↦ λ p. let l : length r ≢ length ys = grind (arith, p) in
          other_length t (take from t ++ (ys ++ drop to t)) (λ q. l (range_length t r ys from to a b q)) ∙ sym (other_length r ys (λ q. l (sym q)))
    ] refl

pub cleared_differs : (t : Rows) → not (length t == 0) ≡ not (same_tables t [])
cleared_differs [] = refl
cleared_differs (e ∷ t) = let no : (suc (length t) == 0) ≡ false = grind arith in rw no refl
