-- The weights of a container's entries: their steps ascend, and their sum is at most what the container weighs.
use Rattle.std.proofs.Common.{◌≡◌, ℕ, zero, suc, ◌+◌, ◌≤◌, ◌<◌, List, [], ◌∷◌, Bool, true, false, ◌&&◌, Option, Some, None, IsTrue, refl, ap, sym, subst, not, arith, length, pos, Less, map}
use Rattle.std.specs.Ordering.{is_lt, eq_by_cmp}
use Rattle.std.specs.FinMap.Entries.{is_sorted, below_all, put, is_sorted-put, is_sorted-where_key}
use lib.Dec.{T}
use Rattle.values.specs.Seen.{of_items}
use Rattle.derived_views.specs.Seen.{without}
use Rattle.value_model.specs.declared.key.Key.{Key}
use Rattle.value_model.specs.declared.key.Key.TheVariants as key
use Rattle.value_model.specs.declared.kind.Kind.{Kind}
use Rattle.value_model.specs.declared.kind.Kind.TheVariants as kind
use Rattle.value_model.specs.Order.{key_cmp, key_total}
use Rattle.value_model.specs.Plain.{Plain, Entries, prim, node, none, entry, list_of, weight, weights, key_weight, place_weight}
use Rattle.guards_views_spec.specs.declared.Weigh.{Weigh}
use Rattle.guards_views_spec.specs.declared.Weigh.TheVariants as weigh
use Rattle.guards_views_spec.specs.Shapes.{in_range, step_at}
use Rattle.guards_views_spec.specs.Views.{Weights, weighs, weights_in, total, one_where, some_passes, is_true, field}

key_weighs : (k : Key) → 1 ≤ key_weight k
key_weighs key.Null = omega arith
key_weighs (key.Bool b) = omega arith
key_weighs (key.Int n) = omega arith
key_weighs (key.Text s) = omega arith

weighs_one : (v : Plain) → 1 ≤ weight v
weighs_one (prim k) = key_weighs k
weighs_one (node kind es) = omega arith

at_most_one : (b : Bool) → one_where b ≤ 1
at_most_one true = omega arith
at_most_one false = omega arith

-- no entry adds more than its value weighs
pub adds_at_most : (w : Weigh) (v : Plain) → weighs w v ≤ weight v
adds_at_most weigh.Count v = weighs_one v
adds_at_most weigh.Weight v = omega arith
adds_at_most (weigh.True n) v = let a = weighs_one v in let b = at_most_one (some_passes is_true (field n v)) in omega (arith, a, b)
adds_at_most (weigh.Int n lo hi) v = let a = weighs_one v in let b = at_most_one (some_passes (in_range lo hi) (field n v)) in omega (arith, a, b)

pub sum_at_most : (w : Weigh) (kind : Kind) (i : ℕ) (es : Entries) → total (weights_in w kind i es) ≤ weights kind es
sum_at_most w kind i none = omega arith
sum_at_most w kind i (entry k v es) = let a = adds_at_most w v in let b = sum_at_most w kind (i + 1) es in omega (arith, a, b)

-- ---- the steps ascend
module _ (w : Weigh) (kind : Kind) (steps : (i : ℕ) (k : Key) → step_at kind i k ≡ k) where
  below_same : (x : Key) (i : ℕ) (es : Entries) → below_all key_cmp x (weights_in w kind i es) ≡ below_all key_cmp x (list_of es)
  below_same x i none = refl
  below_same x i (entry k v es) = let s = steps i k in let b = below_same x (i + 1) es in cc

  -- as the keys do, where the steps are the keys
  pub sorted_same : (i : ℕ) (es : Entries) → is_sorted key_cmp (weights_in w kind i es) ≡ is_sorted key_cmp (list_of es)
  sorted_same i none = refl
  sorted_same i (entry k v es) = let s = steps i k in let b = below_same k (i + 1) es in let r = sorted_same (i + 1) es in rw s (cc)

index_rises : (i j : ℕ) → i < j → key_cmp (key.Int (pos i)) (key.Int (pos j)) ≡ Less
index_rises i j h = grind (arith)

below_indexes : (w : Weigh) (i j : ℕ) (es : Entries) → i < j → below_all key_cmp (key.Int (pos i)) (weights_in w kind.List j es) ≡ true
below_indexes w i j none h = refl
below_indexes w i j (entry k v es) h = let l = index_rises i j h in rw l (below_indexes w i (j + 1) es (omega arith))

pub indexes_sorted : (w : Weigh) (i : ℕ) (es : Entries) → is_sorted key_cmp (weights_in w kind.List i es) ≡ true
indexes_sorted w i none = refl
indexes_sorted w i (entry k v es) = rw (below_indexes w i (i + 1) es (omega arith)) (indexes_sorted w (i + 1) es)

pub items_weigh : (vs : List Plain) → length vs ≤ weights kind.List (of_items vs)
items_weigh [] = omega arith
items_weigh (v ∷ vs) = let a = weighs_one v in let b = items_weigh vs in omega (arith, a, b)

-- ---- what is set or taken out leaves the steps in order
true_from_T : (b : Bool) → T b → IsTrue b
true_from_T true h = refl
true_from_T false h = absurd h

pub put_sorted : (k : Key) (n : ℕ) (es : Weights) → IsTrue (is_sorted key_cmp es) → IsTrue (is_sorted key_cmp (put key_cmp k n es))
put_sorted k n es h = true_from_T _ (is_sorted-put key_cmp key_total k n es (subst T (sym h) tt))

pub without_sorted : (k : Key) (es : Weights) → IsTrue (is_sorted key_cmp es) → IsTrue (is_sorted key_cmp (without k es))
without_sorted k es h = true_from_T _ (is_sorted-where_key key_cmp (λ j. not (eq_by_cmp key_cmp k j)) es (subst T (sym h) tt))
