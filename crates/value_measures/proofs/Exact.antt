-- The test for equality holds of equal values, and of no others.
use Rattle.std.proofs.Common.{◌≡◌, ◌↔◌, Bool, true, false, refl, sym, ap, subst, ◌∙◌, Less, Equal, Greater}
use Rattle.std.specs.Prelude.{IsTrue, ◌&&◌}
use Rattle.std.specs.Ordering.{eq_by_cmp, is_eq, ordering_reverse}
use Rattle.std.specs.declared.cmp.Ordering.{Ordering}
use Rattle.value_model.specs.declared.key.Key.{Key}
use Rattle.value_model.specs.declared.kind.Kind.{Kind}
use Rattle.value_model.specs.declared.kind.Kind.TheVariants as kind
use Rattle.value_model.specs.Order.{key_cmp, key_total, key_exact}
use Rattle.value_model.specs.Plain.{Plain, Entries, prim, node, none, entry}
use Rattle.value_model.specs.Search.{left_true, right_true}
use Rattle.value_measures.specs.Same.{same_kind, is_same, same_entries}

both : (a b : Bool) → a ≡ true → b ≡ true → (a && b) ≡ true
both true b h k = k
both false b h k = absurd cc

equal_by : (o : Ordering) → is_eq o ≡ true → o ≡ Equal
equal_by Less h = absurd cc
equal_by Equal h = refl
equal_by Greater h = absurd cc

key_same : (j k : Key) → eq_by_cmp key_cmp j k ≡ true → j ≡ k
key_same j k h = key_exact j k (equal_by (key_cmp j k) h)

own_reverse : (o : Ordering) → o ≡ ordering_reverse o → o ≡ Equal
own_reverse Less h = absurd cc
own_reverse Equal h = refl
own_reverse Greater h = absurd cc

key_again : (k : Key) → eq_by_cmp key_cmp k k ≡ true
key_again k = let e : key_cmp k k ≡ Equal = own_reverse (key_cmp k k) (key_total.antisymm k k) in ap is_eq e

kind_same : (a b : Kind) → same_kind a b ≡ true → a ≡ b
kind_same kind.Obj kind.Obj h = refl
kind_same kind.List kind.List h = refl
kind_same kind.Map kind.Map h = refl
kind_same kind.Set kind.Set h = refl
kind_same kind.Obj kind.List h = absurd cc
kind_same kind.Obj kind.Map h = absurd cc
kind_same kind.Obj kind.Set h = absurd cc
kind_same kind.List kind.Obj h = absurd cc
kind_same kind.List kind.Map h = absurd cc
kind_same kind.List kind.Set h = absurd cc
kind_same kind.Map kind.Obj h = absurd cc
kind_same kind.Map kind.List h = absurd cc
kind_same kind.Map kind.Set h = absurd cc
kind_same kind.Set kind.Obj h = absurd cc
kind_same kind.Set kind.List h = absurd cc
kind_same kind.Set kind.Map h = absurd cc

kind_again : (a : Kind) → same_kind a a ≡ true
kind_again kind.Obj = refl
kind_again kind.List = refl
kind_again kind.Map = refl
kind_again kind.Set = refl

mutual
  -- values for which the test holds are equal
  pub same_is : (v w : Plain) → is_same v w ≡ true → v ≡ w
  same_is (prim j) (prim k) h = ap prim (key_same j k h)
  same_is (prim j) (node b fs) h = absurd cc
  same_is (node a es) (prim k) h = absurd cc
  same_is (node a es) (node b fs) h =
      let k : a ≡ b = kind_same a b (left_true (same_kind a b) (same_entries es fs) h) in
      let e : es ≡ fs = entries_same es fs (right_true (same_kind a b) (same_entries es fs) h) in
      λ i. node (k i) (e i)

  entries_same : (es fs : Entries) → same_entries es fs ≡ true → es ≡ fs
  entries_same none none h = refl
  entries_same none (entry k w fs) h = absurd cc
  entries_same (entry j v es) none h = absurd cc
  entries_same (entry j v es) (entry k w fs) h =
      let front = left_true (eq_by_cmp key_cmp j k && is_same v w) (same_entries es fs) h in
      let here : j ≡ k = key_same j k (left_true (eq_by_cmp key_cmp j k) (is_same v w) front) in
      let value : v ≡ w = same_is v w (right_true (eq_by_cmp key_cmp j k) (is_same v w) front) in
      let rest : es ≡ fs = entries_same es fs (right_true (eq_by_cmp key_cmp j k && is_same v w) (same_entries es fs) h) in
      λ i. entry (here i) (value i) (rest i)

mutual
  -- the test holds of a value and itself
  pub is_same-refl : (v : Plain) → is_same v v ≡ true
  is_same-refl (prim k) = key_again k
  is_same-refl (node a es) = both (same_kind a a) (same_entries es es) (kind_again a) (entries_again es)

  entries_again : (es : Entries) → same_entries es es ≡ true
  entries_again none = refl
  entries_again (entry k v es) = both (eq_by_cmp key_cmp k k && is_same v v) (same_entries es es) (both (eq_by_cmp key_cmp k k) (is_same v v) (key_again k) (is_same-refl v)) (entries_again es)

-- so it is exact
pub same_exact : (v w : Plain) → (is_same v w ≡ true) ↔ (v ≡ w)
same_exact v w = (same_is v w, λ e. subst (λ (x : Plain). is_same v x ≡ true) e (is_same-refl v))
