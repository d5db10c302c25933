-- Ascending keys with one more: what the search for its place leaves.
use Rattle.std.specs.Prelude.{◌≡◌, ℕ, ◌<◌, ◌≤◌, List, [], ◌∷◌, map, length, IsTrue, refl}
use Rattle.std.proofs.Common.{zero, suc, ap, sym, arith, get_or, Less, Equal, Greater}
use Rattle.std.specs.declared.cmp.Ordering.{Ordering}
use Rattle.std.specs.List.{insert}
use Rattle.std.specs.FinMap.Entries.{put, is_sorted}
use Rattle.value_model.specs.declared.key.Key.{Key}
use Rattle.value_model.specs.Order.{key_cmp, key_exact}
use Rattle.value_model.specs.Plain.{Table, prim}
use Rattle.value_model.specs.Search.{Past, tail_past}
use Rattle.value_model.proofs.Tables.{put_ascends}
use Rattle.values.specs.Seen.{of_member}
use Rattle.guards_views_spec.specs.Views.{with_key}

module _ (k : Key) where
  pub with_found : (ks : List Key) (i : ℕ) (d : Key) → Past of_member k i ks → i < length ks → key_cmp k (get_or ks i d) ≡ Equal → ks ≡ with_key k ks
  with_found [] i d p h e = absurd (omega arith)
  with_found (j ∷ ks) zero d p h e = rw e refl
  with_found (j ∷ ks) (suc i) d p h e =
      let here = p 0 d (omega arith) in
      rw here (ap (λ (js : List Key). j ∷ js) (with_found ks i d (tail_past of_member k j ks i p) (omega arith) e))

  pub with_gap : (ks : List Key) (i : ℕ) (d : Key) → Past of_member k i ks → i ≤ length ks → (i < length ks → key_cmp k (get_or ks i d) ≡ Less) → insert ks i k ≡ with_key k ks
  with_gap [] zero d p h e = refl
  with_gap [] (suc i) d p h e = absurd (omega arith)
  with_gap (j ∷ ks) zero d p h e = let less = e (omega arith) in rw less refl
  with_gap (j ∷ ks) (suc i) d p h e =
      let here = p 0 d (omega arith) in
      rw here (ap (λ (js : List Key). j ∷ js) (with_gap ks i d (tail_past of_member k j ks i p) (omega arith) (λ l. e (omega arith))))

  step_put : (j : Key) (ks : List Key) (o : Ordering) → key_cmp k j ≡ o → map of_member (with_key k ks) ≡ put key_cmp k (prim k) (map of_member ks) → map of_member (with_key k (j ∷ ks)) ≡ put key_cmp k (prim k) (map of_member (j ∷ ks))
  step_put j ks Less e rest = rw e refl
  step_put j ks Equal e rest = rw e (ap (λ (q : Key). (j, prim q) ∷ map of_member ks) (sym (key_exact k j e)))
  step_put j ks Greater e rest = rw e (ap (λ (es : Table). of_member j ∷ es) rest)

  as_put : (ks : List Key) → map of_member (with_key k ks) ≡ put key_cmp k (prim k) (map of_member ks)
  as_put [] = refl
  as_put (j ∷ ks) = step_put j ks (key_cmp k j) refl (as_put ks)

  pub with_ascends : (ks : List Key) → IsTrue (is_sorted key_cmp (map of_member ks)) → IsTrue (is_sorted key_cmp (map of_member (with_key k ks)))
  with_ascends ks h = rw (as_put ks) (put_ascends k (prim k) (map of_member ks) h)
