-- Tables as finite maps: what is found after an entry is set or removed, and that the keys still ascend: laws.
use Rattle.std.specs.Prelude.{◌≡◌, ◌≢◌, List, Some, None, Bool, true, false, IsTrue, not, refl}
use Rattle.std.proofs.Common.{sym, ap, subst, cond, ◌∙◌, Less, Equal, Greater}
use Rattle.std.specs.Ordering.{is_eq, eq_by_cmp}
use Rattle.std.specs.declared.cmp.Ordering.{Ordering}
use Rattle.std.specs.FinMap.Entries.{find, put, is_sorted, find-put, find-where_key, is_sorted-put, is_sorted-where_key}
use Rattle.std.proofs.lemmas.Cmp.{tied_itself}
use lib.Dec.{T}
use Rattle.value_model.specs.declared.key.Key.{Key}
use Rattle.value_model.specs.Order.{key_cmp, key_total, key_exact}
use Rattle.value_model.specs.Places.{without_key}
use Rattle.value_model.specs.Plain.{Plain}

pub is_eq-same : (k : Key) → eq_by_cmp key_cmp k k ≡ true
is_eq-same k = ap is_eq (tied_itself key_total k)

not_tied : (j k : Key) (o : Ordering) → key_cmp j k ≡ o → j ≢ k → is_eq o ≡ false
not_tied j k Less p other = refl
not_tied j k Equal p other = absurd (other (key_exact j k p))
not_tied j k Greater p other = refl

pub is_eq-other : (j k : Key) → j ≢ k → eq_by_cmp key_cmp j k ≡ false
is_eq-other j k other = not_tied j k (key_cmp j k) refl other

pub find_put_same : (k : Key) (w : Plain) (es : List (Key × Plain)) → find key_cmp k (put key_cmp k w es) ≡ Some w
find_put_same k w es = find-put key_cmp key_total k k w es ∙ ap (λ (b : Bool). cond b (Some w) (find key_cmp k es)) (is_eq-same k)

pub find_put_other : (j k : Key) (w : Plain) (es : List (Key × Plain)) → j ≢ k → find key_cmp j (put key_cmp k w es) ≡ find key_cmp j es
find_put_other j k w es other = find-put key_cmp key_total j k w es ∙ ap (λ (b : Bool). cond b (Some w) (find key_cmp j es)) (is_eq-other j k other)

-- keys that tie are one key, so a test answers alike at them
alike : (p : Key → Bool) (q x : Key) → key_cmp q x ≡ Equal → p x ≡ p q
alike p q x e = ap p (sym (key_exact q x e))

pub find_without : (j k : Key) (es : List (Key × Plain)) → find key_cmp j (without_key k es) ≡ cond (not (eq_by_cmp key_cmp k j)) (find key_cmp j es) None
find_without j k es = find-where_key key_cmp (λ x. not (eq_by_cmp key_cmp k x)) j (alike (λ x. not (eq_by_cmp key_cmp k x)) j) es

pub find_without_same : (k : Key) (es : List (Key × Plain)) → find key_cmp k (without_key k es) ≡ None
find_without_same k es = find_without k k es ∙ ap (λ (b : Bool). cond (not b) (find key_cmp k es) None) (is_eq-same k)

pub find_without_other : (j k : Key) (es : List (Key × Plain)) → j ≢ k → find key_cmp j (without_key k es) ≡ find key_cmp j es
find_without_other j k es other = find_without j k es ∙ ap (λ (b : Bool). cond (not b) (find key_cmp j es) None) (is_eq-other k j (λ e. other (sym e)))

true_from_T : (b : Bool) → T b → IsTrue b
true_from_T true h = refl
true_from_T false h = absurd h

-- a table with a key set, or removed, still ascends
pub put_ascends : (k : Key) (w : Plain) (es : List (Key × Plain)) → IsTrue (is_sorted key_cmp es) → IsTrue (is_sorted key_cmp (put key_cmp k w es))
put_ascends k w es h = true_from_T _ (is_sorted-put key_cmp key_total k w es (subst T (sym h) tt))

pub without_ascends : (k : Key) (es : List (Key × Plain)) → IsTrue (is_sorted key_cmp es) → IsTrue (is_sorted key_cmp (without_key k es))
without_ascends k es h = true_from_T _ (is_sorted-where_key key_cmp (λ j. not (eq_by_cmp key_cmp k j)) es (subst T (sym h) tt))
