-- A search from the first key on: what was passed, and what is done where it ends.
use Rattle.std.specs.Prelude.{◌≡◌, ℕ, ◌<◌, ◌≤◌, Bool, true, false, ◌&&◌, IsTrue, List, [], ◌∷◌, map, length, refl}
use Rattle.std.proofs.Common.{zero, suc, ap, sym, subst, ◌∙◌, ◌⊎◌, inl, inr, Result, Ok, Err, arith, get_or, set, Less, Equal, Greater}
use Rattle.std.specs.List.{insert}
use Rattle.std.specs.FinMap.Entries.{put, is_sorted, below_all}
use Rattle.std.specs.declared.cmp.Ordering.{Ordering}
use Rattle.std.specs.Ordering.{ordering_reverse, ordering_index, is_lt}
use Rattle.std.specs.List.Sorted.{IsSearchInRange, IsBinarySearchResult, IsNonDecreasingBy}
use Rattle.value_model.specs.declared.key.Key.{Key}
use Rattle.value_model.specs.Order.{key_cmp, key_total, key_exact}
use Rattle.value_model.specs.Plain.{Plain}

module _ {X : Type 0} (f : X → Key × Plain) (k : Key) where
  -- each of the first n keys is below k
  abbrev pub Past : ℕ → List X → Type 0
  Past n xs = (j : ℕ) (d : X) → j < n → key_cmp k (f (get_or xs j d)).0 ≡ Greater

  pub tail_past : (x : X) (xs : List X) (n : ℕ) → Past (suc n) (x ∷ xs) → Past n xs
  tail_past x xs n p j d h = p (suc j) d (omega arith)

  pub put_found : (xs : List X) (i : ℕ) (d x : X) → Past i xs → i < length xs → key_cmp k (f (get_or xs i d)).0 ≡ Equal → (f x).0 ≡ (f (get_or xs i d)).0 → map f (set xs i x) ≡ put key_cmp k (f x).1 (map f xs)
  put_found [] i d x p h e q = absurd (omega arith)
  put_found (y ∷ xs) zero d x p h e q = rw e (λ i. (q i, (f x).1) ∷ map f xs)
  put_found (y ∷ xs) (suc i) d x p h e q =
      let here = p 0 d (omega arith) in
      rw here (ap (λ ys. f y ∷ ys) (put_found xs i d x (tail_past y xs i p) (omega arith) e q))

  pub put_gap : (xs : List X) (i : ℕ) (d x : X) → Past i xs → i ≤ length xs → (i < length xs → key_cmp k (f (get_or xs i d)).0 ≡ Less) → (f x).0 ≡ k → map f (insert xs i x) ≡ put key_cmp k (f x).1 (map f xs)
  put_gap [] zero d x p h e q = λ i. (q i, (f x).1) ∷ []
  put_gap [] (suc i) d x p h e q = absurd (omega arith)
  put_gap (y ∷ xs) zero d x p h e q = let less = e (omega arith) in rw less (λ i. (q i, (f x).1) ∷ f y ∷ map f xs)
  put_gap (y ∷ xs) (suc i) d x p h e q =
      let here = p 0 d (omega arith) in
      rw here (ap (λ ys. f y ∷ ys) (put_gap xs i d x (tail_past y xs i p) (omega arith) (λ l. e (omega arith)) q))

pub left_true : (a b : Bool) → (a && b) ≡ true → a ≡ true
left_true true b h = refl
left_true false b h = h

pub right_true : (a b : Bool) → (a && b) ≡ true → b ≡ true
right_true true b h = h
right_true false b h = absurd (cc)

pub less_from_test : (o : Ordering) → is_lt o ≡ true → o ≡ Less
less_from_test Less h = refl
less_from_test Equal h = absurd (cc)
less_from_test Greater h = absurd (cc)

le_cases : (a b : ℕ) → a ≤ b → (a < b) ⊎ (a ≡ b)
le_cases a b h = grind arith

-- ---- a binary search: the keys compare to k without falling
module _ (a b k : Key) where
  pub turned : (o : Ordering) → key_cmp a b ≡ o → key_cmp b a ≡ ordering_reverse o
  turned o h = key_total.antisymm b a ∙ ap ordering_reverse h

  rises : key_cmp a b ≡ Less → ordering_index (key_cmp a k) ≤ ordering_index (key_cmp b k)
  rises h = elim (key_cmp a k) as (λ o. key_cmp a k ≡ o → ordering_index o ≤ ordering_index (key_cmp b k)) [
    | Less ↦ λ p. omega arith
    | Equal ↦ λ p. let e : key_cmp b k ≡ Greater = ap (key_cmp b) (sym (key_exact a k p)) ∙ turned Less h in rw e (omega arith)
    | Greater ↦ λ p.
        let ka : key_cmp k a ≡ Less = key_total.antisymm k a ∙ ap ordering_reverse p in
        let e : key_cmp b k ≡ Greater = key_total.antisymm b k ∙ ap ordering_reverse (key_total.trans k a b ka h) in
        rw e (omega arith)
  ] refl

module _ {X : Type 0} (f : X → Key × Plain) where
  below_at : (x : Key) (xs : List X) (j : ℕ) (d : X) → below_all key_cmp x (map f xs) ≡ true → j < length xs → key_cmp x (f (get_or xs j d)).0 ≡ Less
  below_at x [] j d h l = absurd (omega arith)
  below_at x (y ∷ xs) zero d h l = less_from_test _ (left_true _ _ h)
  below_at x (y ∷ xs) (suc j) d h l = below_at x xs j d (right_true _ _ h) (omega arith)

  sorted_at : (xs : List X) (i j : ℕ) (d : X) → IsTrue (is_sorted key_cmp (map f xs)) → i < j → j < length xs → key_cmp (f (get_or xs i d)).0 (f (get_or xs j d)).0 ≡ Less
  sorted_at [] i j d h l m = absurd (omega arith)
  sorted_at (y ∷ xs) i zero d h l m = absurd (omega arith)
  sorted_at (y ∷ xs) zero (suc j) d h l m = below_at (f y).0 xs j d (left_true _ _ h) (omega arith)
  sorted_at (y ∷ xs) (suc i) (suc j) d h l m = sorted_at xs i j d (right_true _ _ h) (omega arith) (omega arith)

  -- where the key is, or where it would go
  abbrev pub IsPlace : Key → List X → Result ℕ ℕ → Type 0
  IsPlace k xs (Ok i) = record { past : Past f k i xs; in_range : i < length xs; same : (d : X) → key_cmp k (f (get_or xs i d)).0 ≡ Equal }
  IsPlace k xs (Err i) = record { past : Past f k i xs; in_range : i ≤ length xs; above : (d : X) → i < length xs → key_cmp k (f (get_or xs i d)).0 ≡ Less }

  pub searched : (k : Key) (xs : List X) (r : Result ℕ ℕ) → IsTrue (is_sorted key_cmp (map f xs)) → IsSearchInRange r (length xs) → IsBinarySearchResult (λ x. key_cmp (f x).0 k) xs r → IsPlace k xs r
  searched k xs (Ok i) s l h = record {
    past = λ j d m. let e = key_exact _ k (h d) in turned (f (get_or xs j d)).0 k k Less (subst (λ q. key_cmp (f (get_or xs j d)).0 q ≡ Less) e (sorted_at xs j i d s m l));
    in_range = l;
    same = λ d. turned (f (get_or xs i d)).0 k k Equal (h d);
  }
  searched k xs (Err i) s l h =
      let risen : IsNonDecreasingBy (λ x. ordering_index (key_cmp (f x).0 k)) xs = λ a b d le m.
      elim (le_cases a b le) [ inl lt ↦ rises _ _ k (sorted_at xs a b d s lt m) | inr e ↦ rw e (omega arith) ] in
      record {
        past = λ j d m. turned (f (get_or xs j d)).0 k k Less ((h risen).0 j d (omega arith) m);
        in_range = l;
        above = λ d m. turned (f (get_or xs i d)).0 k k Greater ((h risen).1 i d (omega arith) m);
      }
