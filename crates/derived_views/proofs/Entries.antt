-- Setting and taking out an entry, at the place where the search for its key ends.
use Rattle.std.proofs.Common.{◌≡◌, ℕ, zero, suc, ◌<◌, ◌≤◌, List, [], ◌∷◌, map, length, Bool, true, false, ◌&&◌, IsTrue, refl, ap, sym, subst, arith, get_or, set, Less, Equal, Greater}
use Rattle.std.specs.List.{insert, remove}
use Rattle.std.specs.FinMap.Entries.{put, is_sorted, below_all}
use Rattle.std.specs.Ordering.{is_lt}
use Rattle.value_model.specs.declared.key.Key.{Key}
use Rattle.value_model.specs.Order.{key_cmp, key_total, key_exact}
use Rattle.value_model.specs.Search.{Past, left_true, right_true, less_from_test}
use Rattle.derived_views.specs.Seen.{of_weight, of_weights, placed, without}
use Rattle.derived_views.specs.declared.weights.Weight.{Weight}

-- the keys alone are looked at
pub same_order : (x : Key) (ws : List Weight) → below_all key_cmp x (map placed ws) ≡ below_all key_cmp x (of_weights ws)
same_order x [] = refl
same_order x (w ∷ ws) = ap (λ b. is_lt (key_cmp x w.key) && b) (same_order x ws)

pub same_sorted : (ws : List Weight) → is_sorted key_cmp (map placed ws) ≡ is_sorted key_cmp (of_weights ws)
same_sorted [] = refl
same_sorted (w ∷ ws) = let a = same_order w.key ws in let b = same_sorted ws in cc

module _ (k : Key) where
  tail_past : (w : Weight) (ws : List Weight) (i : ℕ) → Past placed k (suc i) (w ∷ ws) → Past placed k i ws
  tail_past w ws i p j d h = p (suc j) d (omega arith)

  pub put_found : (ws : List Weight) (i : ℕ) (d x : Weight) → Past placed k i ws → i < length ws → key_cmp k (get_or ws i d).key ≡ Equal → x.key ≡ (get_or ws i d).key → of_weights (set ws i x) ≡ put key_cmp k x.weight (of_weights ws)
  put_found [] i d x p h e q = absurd (omega arith)
  put_found (w ∷ ws) zero d x p h e q = rw e (λ i. (q i, x.weight) ∷ of_weights ws)
  put_found (w ∷ ws) (suc i) d x p h e q =
      let here = p 0 d (omega arith) in
      rw here (ap (λ ys. of_weight w ∷ ys) (put_found ws i d x (tail_past w ws i p) (omega arith) e q))

  pub put_gap : (ws : List Weight) (i : ℕ) (d x : Weight) → Past placed k i ws → i ≤ length ws → (i < length ws → key_cmp k (get_or ws i d).key ≡ Less) → x.key ≡ k → of_weights (insert ws i x) ≡ put key_cmp k x.weight (of_weights ws)
  put_gap [] zero d x p h e q = λ i. (q i, x.weight) ∷ []
  put_gap [] (suc i) d x p h e q = absurd (omega arith)
  put_gap (w ∷ ws) zero d x p h e q = let less = e (omega arith) in rw less (λ i. (q i, x.weight) ∷ of_weight w ∷ of_weights ws)
  put_gap (w ∷ ws) (suc i) d x p h e q =
      let here = p 0 d (omega arith) in
      rw here (ap (λ ys. of_weight w ∷ ys) (put_gap ws i d x (tail_past w ws i p) (omega arith) (λ l. e (omega arith)) q))

  -- a key below the first one isn't there
  without_above : (ws : List Weight) → below_all key_cmp k (of_weights ws) ≡ true → without k (of_weights ws) ≡ of_weights ws
  without_above [] h = refl
  without_above (w ∷ ws) h =
      let below : key_cmp k w.key ≡ Less = less_from_test _ (left_true _ _ h) in
      rw below (ap (λ ys. of_weight w ∷ ys) (without_above ws (right_true _ _ h)))

  above_next : (x : Key) (ws : List Weight) → key_cmp k x ≡ Less → below_all key_cmp x (of_weights ws) ≡ true → below_all key_cmp k (of_weights ws) ≡ true
  above_next x [] p h = refl
  above_next x (w ∷ ws) p h =
      let below : key_cmp k w.key ≡ Less = key_total.trans k x w.key p (less_from_test _ (left_true _ _ h)) in
      rw below (above_next x ws p (right_true _ _ h))

  pub remove_found : (ws : List Weight) (i : ℕ) (d : Weight) → Past placed k i ws → i < length ws → key_cmp k (get_or ws i d).key ≡ Equal → IsTrue (is_sorted key_cmp (of_weights ws)) → of_weights (remove ws i) ≡ without k (of_weights ws)
  remove_found [] i d p h e s = absurd (omega arith)
  remove_found (w ∷ ws) zero d p h e s =
      let same : k ≡ w.key = key_exact k w.key e in
      rw e (sym (without_above ws (subst (λ (q : Key). below_all key_cmp q (of_weights ws) ≡ true) (sym same) (left_true _ _ s))))
  remove_found (w ∷ ws) (suc i) d p h e s =
      let here = p 0 d (omega arith) in
      rw here (ap (λ ys. of_weight w ∷ ys) (remove_found ws i d (tail_past w ws i p) (omega arith) e (right_true _ _ s)))

  pub remove_gap : (ws : List Weight) (i : ℕ) (d : Weight) → Past placed k i ws → i ≤ length ws → (i < length ws → key_cmp k (get_or ws i d).key ≡ Less) → IsTrue (is_sorted key_cmp (of_weights ws)) → of_weights ws ≡ without k (of_weights ws)
  remove_gap [] i d p h e s = refl
  remove_gap (w ∷ ws) zero d p h e s =
      let less : key_cmp k w.key ≡ Less = e (omega arith) in
      rw less (ap (λ ys. of_weight w ∷ ys) (sym (without_above ws (above_next w.key ws less (left_true _ _ s)))))
  remove_gap (w ∷ ws) (suc i) d p h e s =
      let here = p 0 d (omega arith) in
      rw here (ap (λ ys. of_weight w ∷ ys) (remove_gap ws i d (tail_past w ws i p) (omega arith) (λ l. e (omega arith)) (right_true _ _ s)))
