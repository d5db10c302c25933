-- A search from the first key on: what was passed, and what is done where it ends: laws.
use Rattle.std.specs.Prelude.{◌≡◌, ℕ, ◌<◌, ◌≤◌, true, IsTrue, Some, None, List, [], ◌∷◌, map, length, refl}
use Rattle.std.proofs.Common.{zero, suc, ap, sym, subst, arith, get_or, Less, Equal}
use Rattle.std.specs.List.{remove}
use Rattle.std.specs.FinMap.Entries.{find, is_sorted, below_all}
use Rattle.value_model.specs.declared.key.Key.{Key}
use Rattle.value_model.specs.Order.{key_cmp, key_total, key_exact}
use Rattle.value_model.specs.Places.{without_key}
use Rattle.value_model.specs.Plain.{Plain}
use Rattle.value_model.specs.Search.{Past, tail_past, left_true, right_true, less_from_test}

-- ---- what is at the place, and what removing the entry there leaves
-- a key below the first one isn't in the table
pub none_below : (k x : Key) (es : List (Key × Plain)) → key_cmp k x ≡ Less → below_all key_cmp x es ≡ true → record { nothing : find key_cmp k es ≡ None; same : without_key k es ≡ es }
none_below k x [] p h = record { nothing = refl; same = refl }
none_below k x (e ∷ es) p h =
    let below : key_cmp k e.0 ≡ Less = key_total.trans k x e.0 p (less_from_test _ (left_true _ _ h)) in
    let rest = none_below k x es p (right_true _ _ h) in
    record { nothing = rw below rest.nothing; same = rw below (ap (λ (ys : List (Key × Plain)). e ∷ ys) rest.same) }

-- a table whose keys are all above k has no entry of k to lose
pub without_above : (k : Key) (es : List (Key × Plain)) → below_all key_cmp k es ≡ true → without_key k es ≡ es
without_above k [] h = refl
without_above k (e ∷ es) h =
    let below : key_cmp k e.0 ≡ Less = less_from_test _ (left_true _ _ h) in
    rw below (ap (λ (ys : List (Key × Plain)). e ∷ ys) (without_above k es (right_true _ _ h)))

module _ {X : Type 0} (f : X → Key × Plain) (k : Key) where
  pub found_at : (xs : List X) (i : ℕ) (d : X) → Past f k i xs → i < length xs → key_cmp k (f (get_or xs i d)).0 ≡ Equal → find key_cmp k (map f xs) ≡ Some (f (get_or xs i d)).1
  found_at [] i d p h e = absurd (omega arith)
  found_at (y ∷ xs) zero d p h e = rw e refl
  found_at (y ∷ xs) (suc i) d p h e = let here = p 0 d (omega arith) in rw here (found_at xs i d (tail_past f k y xs i p) (omega arith) e)

  pub absent_at : (xs : List X) (i : ℕ) (d : X) → Past f k i xs → i ≤ length xs → (i < length xs → key_cmp k (f (get_or xs i d)).0 ≡ Less) → IsTrue (is_sorted key_cmp (map f xs)) → find key_cmp k (map f xs) ≡ None
  absent_at [] i d p h e s = refl
  absent_at (y ∷ xs) zero d p h e s = let less = e (omega arith) in rw less (none_below k (f y).0 (map f xs) less (left_true _ _ s)).nothing
  absent_at (y ∷ xs) (suc i) d p h e s = let here = p 0 d (omega arith) in rw here (absent_at xs i d (tail_past f k y xs i p) (omega arith) (λ l. e (omega arith)) (right_true _ _ s))

  pub remove_found : (xs : List X) (i : ℕ) (d : X) → Past f k i xs → i < length xs → key_cmp k (f (get_or xs i d)).0 ≡ Equal → IsTrue (is_sorted key_cmp (map f xs)) → map f (remove xs i) ≡ without_key k (map f xs)
  remove_found [] i d p h e s = absurd (omega arith)
  remove_found (y ∷ xs) zero d p h e s =
      let same : k ≡ (f y).0 = key_exact k (f y).0 e in
      rw e (sym (subst (λ (q : Key). without_key q (map f xs) ≡ map f xs) (sym same) (without_above (f y).0 (map f xs) (left_true _ _ s))))
  remove_found (y ∷ xs) (suc i) d p h e s =
      let here = p 0 d (omega arith) in
      rw here (ap (λ (ys : List (Key × Plain)). f y ∷ ys) (remove_found xs i d (tail_past f k y xs i p) (omega arith) e (right_true _ _ s)))
